-- A log that is made again, step by step. They carry a proof: no promise speaks of them.
use Rattle.std.specs.Prelude.{⊤, ℕ, Bool, true, false, List, take}
use Rattle.reg_base.specs.declared.memory.Op.{Op}
use Rattle.reg_front.specs.declared.starts.Start.{Start}
use Rattle.reg_process.specs.Process.{State, step}
use Rattle.reg_process.specs.Events.{Kept, IsGoing}
use Rattle.reg_records.specs.declared.entries.LogEntry.{LogEntry}
use Rattle.reg_node.specs.declared.faults.OpenFault.{OpenFault}
use Rattle.reg_node.specs.declared.faults.OpenFault.TheVariants.{NoProcess, TooLong, NoStep, OutOfMemory}
use Rattle.reg_node.specs.Logs.{IsStep, AreSteps, state_after}
use Rattle.reg_node.specs.Opening.{IsFirstNoStep}

-- whether a process makes the step of an entry again, with its reply
abbrev pub Remakes : (Op → ℕ → Start) → Kept → LogEntry → Bool → Kept → Type 0
Remakes start old entry true new = IsStep start old.state entry × IsGoing new (step start old.state entry.step).0
Remakes start old entry false new = ¬ IsStep start old.state entry

-- the entries before a place are made again
pub record IsReplayed (start : Op → ℕ → Start) (first : State) (log : List LogEntry) (place : ℕ)
    (now : Kept) : Type 0 where
  pub steps : AreSteps start first (take place log)
  pub going : IsGoing now (state_after start first (take place log))

-- why the entries are not all made again
abbrev pub IsReplayFault : (Op → ℕ → Start) → State → List LogEntry → OpenFault → Type 0
IsReplayFault start first log (NoStep place) = IsFirstNoStep start first log place
IsReplayFault start first log OutOfMemory = ⊤
IsReplayFault start first log NoProcess = ⊥
IsReplayFault start first log TooLong = ⊥
