-- The steps of a record put into an order that is a run. Promises cite it.
use Rattle.std.specs.Prelude.{ℕ, ◌≡◌, List, take}
use Rattle.reg_base.specs.declared.memory.Op.{Op}
use Rattle.reg_base.specs.Shape.{Extent}
use Rattle.reg_front.specs.declared.starts.Start.{Start}
use Rattle.reg_checkers.specs.History.{IsAt}
use Rattle.reg_world.specs.Worlds.{Made}
use Rattle.reg_records.specs.declared.entries.LogEntry.{LogEntry}
use Rattle.reg_records.specs.Records.{mentions}
use Rattle.reg_records.specs.Merges.{NoneHasMore}
use Rattle.reg_commands.specs.Replays.{start_of}
use Rattle.reg_commands.specs.declared.faults.Fault.{Fault}
use Rattle.reg_commands.specs.declared.faults.Fault.TheVariants.{Unread, TooLong, NotText, Output, Line, Event}
use Rattle.reg_commands.specs.declared.faults.Fault.TheVariants.{Workload, OutOfMemory}
use Rattle.reg_node.specs.declared.transcripts.recorded.Recorded.{Recorded}
use Rattle.reg_node.specs.RecordLines.{Account, IsAccount, SpellsAccount, account_text}
use Rattle.reg_verify.specs.declared.faults.VerifyFault.{VerifyFault}
use Rattle.reg_verify.specs.declared.faults.VerifyFault.TheVariants.{Command, Unfaithful}
use Rattle.reg_verify.specs.Logs.{AreLogs, log_of, order_of}
use Rattle.reg_verify.specs.Verifies.{BlamesText, Runs, line_at}

-- the same steps, those of each process in the same order
abbrev pub IsOrdering : List Recorded → List Recorded → Type 0
IsOrdering steps ordered = (p : ℕ) → log_of p ordered ≡ log_of p steps

-- the same steps in an order that is a run
pub record Orders (start : Op → ℕ → Start) (shape : Extent) (steps ordered : List Recorded) : Type 0 where
  pub same : IsOrdering steps ordered
  pub world : Made
  pub runs : Runs start shape ordered world

-- The step at this place is in no run of first steps of the processes. So no order of all steps is a run.
pub record IsStuckAt (start : Op → ℕ → Start) (shape : Extent) (steps : List Recorded) (place : ℕ) : Type 0 where
  pub logs : List (List LogEntry)
  pub split : AreLogs shape.processes steps logs
  pub step : Recorded
  pub at : IsAt steps place step
  pub never : NoneHasMore start shape logs step.process (mentions step.process (take place (order_of steps)))
  pub none : (ordered : List Recorded) → ¬ Orders start shape steps ordered

-- the one record is that of the same steps as the other, in an order that is a run
pub record ShowsMerged (a b : Account) : Type 0 where
  pub front : b.front ≡ a.front
  pub shape : b.shape ≡ a.shape
  pub names : b.names ≡ a.names
  pub orders : Orders (start_of a.front) a.shape a.steps b.steps

-- The text is that of a record, and the record of the same steps in an order that is a run was written: `Wrote` says
-- how a text was written.
pub record Merges (Wrote : List ℕ → Type 0) (text : List ℕ) : Type 0 where
  pub account : Account
  pub good : IsAccount account
  pub read : SpellsAccount text account
  pub merged : Account
  pub shown : ShowsMerged account merged
  pub written : Wrote (account_text merged)

-- the text is that of a record whose steps have an order that is a run
abbrev pub HasOrder : List ℕ → Type 0
HasOrder text =
    (a : Account) × IsAccount a × SpellsAccount text a
    × ((ordered : List Recorded) × Orders (start_of a.front) a.shape a.steps ordered)

-- The text is that of a record, and the step on this line is in no run of first steps of the processes.
pub record IsStuck (line : ℕ) (text : List ℕ) : Type 0 where
  pub account : Account
  pub good : IsAccount account
  pub read : SpellsAccount text account
  pub place : ℕ
  pub line_is : line ≡ line_at place
  pub stuck : IsStuckAt (start_of account.front) account.shape account.steps place

-- what a fault of a command says of the text; that the output failed is told only of what has an order
abbrev pub BlamesInput : Fault → List ℕ → Type 0
BlamesInput Output text = HasOrder text
BlamesInput Unread text = BlamesText Unread text
BlamesInput TooLong text = BlamesText TooLong text
BlamesInput NotText text = BlamesText NotText text
BlamesInput (Line line why) text = BlamesText (Line line why) text
BlamesInput (Event at fault) text = ⊥
BlamesInput (Workload fault) text = ⊥
BlamesInput OutOfMemory text = BlamesText OutOfMemory text

-- what a fault says of the text
abbrev pub BlamesMerge : VerifyFault → List ℕ → Type 0
BlamesMerge (Command fault) text = BlamesInput fault text
BlamesMerge (Unfaithful line) text = IsStuck line text
