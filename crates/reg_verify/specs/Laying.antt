-- Steps laid out by an order of their processes. They carry a proof: no promise speaks of them.
use Rattle.std.specs.Prelude.{ℕ, ⊤, ◌≡◌, ◌<◌, List, take, Some}
use Rattle.reg_base.specs.declared.memory.Op.{Op}
use Rattle.reg_base.specs.Shape.{Extent}
use Rattle.reg_front.specs.declared.starts.Start.{Start}
use Rattle.reg_checkers.specs.History.{IsAt}
use Rattle.reg_commands.specs.declared.faults.Fault.TheVariants.{OutOfMemory}
use Rattle.reg_records.specs.declared.entries.LogEntry.{LogEntry}
use Rattle.reg_records.specs.Records.{entry_of, mentions}
use Rattle.reg_node.specs.declared.transcripts.recorded.Recorded.{Recorded}
use Rattle.reg_verify.specs.declared.faults.VerifyFault.{VerifyFault}
use Rattle.reg_verify.specs.declared.faults.VerifyFault.TheVariants.{Command, Unfaithful}
use Rattle.reg_records.specs.Merges.{NoneHasMore}
use Rattle.reg_verify.specs.Logs.{order_of}
use Rattle.reg_verify.specs.declared.merging.Unordered.{Unordered}
use Rattle.reg_verify.specs.declared.merging.Unordered.TheVariants.{Stuck, OutOfMemory as NoMemory}
use Rattle.reg_verify.specs.Merges.{IsStuckAt}
use Rattle.reg_verify.specs.Verifies.{line_at}

-- each mention stands for an entry of a log
abbrev pub AllStand : List ℕ → List (List LogEntry) → Type 0
AllStand order logs =
    (k p : ℕ) → IsAt order k p → (entry : LogEntry) × (entry_of logs p (mentions p (take k order)) ≡ Some entry)

-- the steps are the entries that these mentions stand for
pub record AreLaidOut (order : List ℕ) (logs : List (List LogEntry)) (steps : List Recorded) : Type 0 where
  pub processes : order_of steps ≡ order
  pub each : (k : ℕ) (r : Recorded) → IsAt steps k r
      → entry_of logs r.process (mentions r.process (take k order)) ≡ Some r.entry

-- each step is of one of so many processes
abbrev pub AllWithin : ℕ → List Recorded → Type 0
AllWithin n steps = (k : ℕ) (r : Recorded) → IsAt steps k r → r.process < n

-- the step at a place is that of p with this number, from 0
pub record IsStepOf (steps : List Recorded) (p number place : ℕ) : Type 0 where
  pub step : Recorded
  pub at : IsAt steps place step
  pub process : step.process ≡ p
  pub before : mentions p (take place (order_of steps)) ≡ number

-- there was no memory, or the line is that of a step that is in no run
abbrev pub BlamesOrder : (Op → ℕ → Start) → Extent → List Recorded → VerifyFault → Type 0
BlamesOrder start shape steps (Command fault) = fault ≡ OutOfMemory
BlamesOrder start shape steps (Unfaithful line) =
    (place : ℕ) × (line ≡ line_at place) × IsStuckAt start shape steps place

-- why logs have no order, `OutOfMemory` aside: this entry is in no run of first entries of them
abbrev pub IsUnordered : (Op → ℕ → Start) → Extent → List (List LogEntry) → Unordered → Type 0
IsUnordered start shape logs (Stuck p number) =
    ((entry : LogEntry) × (entry_of logs p number ≡ Some entry)) × NoneHasMore start shape logs p number
IsUnordered start shape logs NoMemory = ⊤
