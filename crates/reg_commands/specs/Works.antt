-- What is shown of the workload that a document says, and what a fault says of the document.
use Rattle.std.specs.Prelude.{ℕ, ◌≡◌, ◌⊎◌, List, false}
use Rattle.reg_inputs.specs.Loads.{Load}
use Rattle.reg_commands.specs.Answers.{Blames}
use Rattle.reg_commands.specs.Plays.{Holds}
use Rattle.reg_commands.specs.declared.command.Command.TheVariants.{Play}
use Rattle.reg_commands.specs.declared.faults.Fault.{Fault}

-- The text is a document that says a workload, of which this was shown. `Wrote` says how a text was written.
pub record OfDocument (IsShown : (List ℕ → Type 0) → Load → Type 0) (Wrote : List ℕ → Type 0)
    (text : List ℕ) : Type 0 where
  pub work : Load
  pub holds : Holds text work
  pub shown : IsShown Wrote work

-- What a fault says of the text: of a command, what it says where a workload is played; or the text is a document that
-- says a workload, of which this holds.
abbrev pub BlamesDocument : {F : Type 0} → (Fault → F) → (F → Load → Type 0) → F → List ℕ → Type 0
BlamesDocument of_fault IsStopped f text =
    ((fault : Fault) × (f ≡ of_fault fault) × Blames (Play false) fault text)
    ⊎ ((work : Load) × Holds text work × IsStopped f work)
