-- What is told of a workload that is in its layout.
use Rattle.std.specs.Prelude.{ℕ, ◌≡◌, ◌⊎◌, ⊤, Bool, false, List}
use Rattle.reg_commands.specs.Answers.{Blames}
use Rattle.reg_commands.specs.Plays.{Holds, IsReportOfPlay}
use Rattle.reg_commands.specs.declared.command.Command.TheVariants.{Play}
use Rattle.reg_commands.specs.declared.faults.Fault.{Fault}
use Rattle.reg_commands.specs.declared.faults.Fault.TheVariants.{Output, Workload, OutOfMemory}
use Rattle.reg_history.specs.Reports.{Contents, report_text}
use Rattle.reg_inputs.specs.Loads.{IsLoad, Load}
use Rattle.reg_commands.specs.Layout.{load_text}

-- the fault is one of a workload, of which nothing is said, or want of memory
abbrev pub IsLayoutFault : Fault → Type 0
IsLayoutFault (Workload fault) = ⊤
IsLayoutFault OutOfMemory = ⊤
IsLayoutFault _ = ⊥

-- What a fault says of the text: of the input, what all commands say; that it is in no layout, of which nothing is
-- said; or it says a workload, of which nothing is shown for this reason.
abbrev pub BlamesLayout : {F : Type 0} → (Fault → F) → (F → Load → Type 0) → F → List ℕ → Type 0
BlamesLayout of_fault IsStopped f text =
    ((fault : Fault) × (f ≡ of_fault fault) × (Blames (Play false) fault text ⊎ IsLayoutFault fault))
    ⊎ ((work : Load) × Holds text work × IsStopped f work)

-- The report of the player's play of the workload was written: `Wrote` says how a text was.
pub record ShowsReport (fair : Bool) (Wrote : List ℕ → Type 0) (work : Load) : Type 0 where
  pub report : Contents
  pub shown : IsReportOfPlay fair work report
  pub written : Wrote (report_text report)

-- why none is written: the writer failed, or memory was refused
abbrev pub StopsReport : Fault → Type 0
StopsReport fault = (fault ≡ Output) ⊎ (fault ≡ OutOfMemory)

-- The layout of a workload was written: `Wrote` says how a text was. Of the text that it was made of nothing is said.
pub record LaysOut (Wrote : List ℕ → Type 0) (text : List ℕ) : Type 0 where
  pub work : Load
  pub good : IsLoad work
  pub written : Wrote (load_text work)

-- what a fault says of a text that is to be put into its layout: of the input, what all commands say; else nothing
abbrev pub BlamesGuess : Fault → List ℕ → Type 0
BlamesGuess fault text = Blames (Play false) fault text ⊎ (IsLayoutFault fault ⊎ (fault ≡ Output))
