-- What is told of a schedule that is run under a front end that need not be the one that it names.
use Rattle.std.proofs.Common.{ℕ, ◌≡◌, ◌≢◌, ◌≤◌, ◌⊎◌, List, [], ◌∷◌, ◌++◌, None, Result, length, refl}
use Rattle.std.specs.Prelude.{IfErr, IfOk, OnOk}
use Rattle.reg_base.specs.declared.memory.Op.{Op}
use Rattle.reg_commands.specs.Answers.{Blames}
use Rattle.reg_commands.specs.Replays.{BlamesRun, Shows}
use Rattle.reg_commands.specs.declared.command.Command.{Command}
use Rattle.reg_commands.specs.declared.command.Command.TheVariants.{Check, Replay}
use Rattle.reg_commands.specs.declared.faults.Fault.{Fault}
use Rattle.reg_commands.specs.declared.faults.Fault.TheVariants.{Unread, TooLong, NotText, Output, Line, Event}
use Rattle.reg_commands.specs.declared.faults.Fault.TheVariants.{Workload, OutOfMemory}
use Rattle.reg_trace.specs.Data.{Data, IsDataOf, data_text}
use Rattle.reg_trace.specs.Notes.{Notes, notes_of}
use Rattle.reg_front.specs.declared.starts.Start.{Start}
use Rattle.reg_history.specs.Reports.{Contents, report_text}
use Rattle.reg_inputs.specs.Schedules.{IsPlan, Plan, Spells}
use Rattle.reg_show.specs.Pages.{StopsTold}
use Rattle.reg_show.specs.declared.faults.ShowFault.{ShowFault}
use Rattle.reg_show.specs.declared.faults.ShowFault.TheVariants.{Command as ShowCommand}
use Rattle.reg_show.specs.declared.paging.TheConstants.{MOST_TOLD}

-- The text is that of a plan with no more events than data can have. All of them are accepted where its operations
-- start so, and the data of that run, with the notes of the text and no points, was written: `Wrote` says how a text
-- was.
pub record TellsUnder (start : Op → ℕ → Start) (Wrote : List ℕ → Type 0) (text : List ℕ) : Type 0 where
  pub plan : Plan
  pub good : IsPlan plan
  pub read : Spells text plan
  pub few : length plan.events ≤ MOST_TOLD
  pub data_in : Data
  pub told : IsDataOf start plan (notes_of text) None data_in
  pub written : Wrote (data_text data_in ++ 10 ∷ [])

-- The text is that of a plan, and the report of its run, where its operations start so, was written: `Wrote` says how
-- a text was. It names the plan's front end, and has no points.
pub record ReplaysUnder (start : Op → ℕ → Start) (Wrote : List ℕ → Type 0) (text : List ℕ) : Type 0 where
  pub plan : Plan
  pub good : IsPlan plan
  pub read : Spells text plan
  pub report : Contents
  pub shown : Shows start plan report
  pub unpointed : report.points ≡ None
  pub written : Wrote (report_text report)

-- what is told of the run of a plan, where its operations start so: its data with these notes and no points, or why
-- there is none
abbrev pub IsDataUnder : (Op → ℕ → Start) → Plan → Notes → Result Data ShowFault → Type 0
IsDataUnder start p notes told =
    OnOk told (length p.events ≤ MOST_TOLD) × IfOk told (λ d. IsDataOf start p notes None d)
    × IfErr told (λ f. StopsTold start p f) × IfErr told (λ f. f ≢ ShowCommand Output)

-- the report of the run of a plan, where its operations start so, without points, or why there is none
abbrev pub IsReportUnder : (Op → ℕ → Start) → Plan → Result Contents Fault → Type 0
IsReportUnder start p made =
    IfOk made (λ r. Shows start p r × (r.points ≡ None)) × IfErr made (λ f. BlamesRun start p f)

-- what a fault says of a text of which no run is made: what the replay of a schedule says by it
abbrev pub BlamesUnread : Fault → List ℕ → Type 0
BlamesUnread Output text = ⊥
BlamesUnread (Event at fault) text = ⊥
BlamesUnread fault text = Blames Replay fault text

-- what a fault says of a text: that no run is made of it, or that of the run of its plan nothing is written for this
-- reason
abbrev pub BlamesUnder : {F : Type 0} → (Fault → F) → (Plan → F → Type 0) → F → List ℕ → Type 0
BlamesUnder of_fault Stops f text =
    ((fault : Fault) × (f ≡ of_fault fault) × BlamesUnread fault text)
    ⊎ ((p : Plan) × IsPlan p × Spells text p × Stops p f)

-- a fault of the reader of schedules, which tells of no event
abbrev pub fault_of_reading : Fault → Fault
fault_of_reading (Event at fault) = OutOfMemory
fault_of_reading fault = fault

-- a fault that all commands tell of their input
pub unread : (fault : Fault) (text : List ℕ) → fault ≢ Output → ((command : Command) → Blames command fault text)
    → BlamesUnread fault text
unread Unread text other blamed = blamed Replay
unread TooLong text other blamed = blamed Replay
unread NotText text other blamed = blamed Replay
unread Output text other blamed = absurd (other refl)
unread (Line line why) text other blamed = blamed Replay
unread (Event at why) text other blamed = blamed Check
unread (Workload why) text other blamed = blamed Replay
unread OutOfMemory text other blamed = blamed Replay
