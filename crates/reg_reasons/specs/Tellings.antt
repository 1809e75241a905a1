-- What is told of a text: which answer it gets, and what stops before an answer.
use Rattle.std.specs.Prelude.{ℕ, ◌≡◌, ◌<◌, ◌⊎◌, ⊤, Bool, true, false, List, [], ◌∷◌, ◌++◌, length, sum_by, codes}
use Rattle.std.specs.Prelude.{Option, Some, None}
use Rattle.std.specs.Str.{IsUtf8}
use Rattle.reg_base.specs.declared.limits.TheConstants.{LONGEST_INPUT}
use Rattle.reg_front.specs.Table.{front_name}
use Rattle.reg_checkers.specs.declared.entries.Point.{Point}
use Rattle.reg_history.specs.Reports.{Contents, IsReport, SpellsReport}
use Rattle.reg_inputs.specs.Loads.{Load}
use Rattle.reg_inputs.specs.Schedules.{Plan, IsPlan, Spells}
use Rattle.reg_commands.specs.FaultLines.{fault_line}
use Rattle.reg_commands.specs.Verdicts.{Judges, all_yes}
use Rattle.reg_commands.specs.declared.faults.Fault.{Fault}
use Rattle.reg_commands.specs.declared.faults.Fault.TheVariants.{Unread, TooLong, NotText, Output, Line, Event}
use Rattle.reg_commands.specs.declared.faults.Fault.TheVariants.{Workload, OutOfMemory}
use Rattle.reg_commands.specs.declared.verdicts.Verdicts.{Verdicts}
use Rattle.reg_commands.specs.Answers.{IsRefused, IsRefusedAt, IsRefusedFor}
use Rattle.reg_commands.specs.Plays.{Holds}
use Rattle.reg_commands.specs.Replays.{start_of, run_by}
use Rattle.reg_commands.specs.declared.command.Command.{Command}
use Rattle.reg_commands.specs.declared.command.Command.TheVariants.{Replay, Check, Play}
use Rattle.reg_reasons.specs.FirstLines.{first_no, subject_text}
use Rattle.reg_reasons.specs.Records.{TellsRecord, begins_record}
use Rattle.reg_commands.specs.Kinds.{kind_of}
use Rattle.reg_commands.specs.declared.kinds.Kind.{Kind}
use Rattle.reg_commands.specs.declared.kinds.Kind.TheVariants.{Report, Schedule, Workload as WorkloadKind}

-- the fault is one of the text, and the command tells it
abbrev pub IsWhy : Command → Fault → List ℕ → Type 0
IsWhy command Unread text = ⊥
IsWhy command TooLong text = ⊥
IsWhy command NotText text = ⊥
IsWhy command Output text = ⊥
IsWhy command (Line line why) text = IsRefused command line why text
IsWhy command (Event at fault) text = IsRefusedAt command at fault text
IsWhy command (Workload fault) text = IsRefusedFor command fault text
IsWhy command OutOfMemory text = ⊥

-- what a fault says that stops before an answer: it is none of the text
abbrev pub Halts : Fault → List ℕ → Type 0
Halts Unread xs = ⊤
Halts TooLong xs = LONGEST_INPUT < length xs
Halts NotText xs = ¬ (IsUtf8 xs)
Halts Output xs = ⊤
Halts (Line line why) xs = ⊥
Halts (Event at fault) xs = ⊥
Halts (Workload fault) xs = ⊥
Halts OutOfMemory xs = ⊤

-- The text has a fault that the command tells, and the answer begins with the line of that fault.
pub record Refuses (command : Command) (answer text : List ℕ) : Type 0 where
  pub fault : Fault
  pub why : IsWhy command fault text
  pub rest : List ℕ
  pub begins : answer ≡ fault_line fault ++ rest

-- The text is that of a plan, all of whose events are accepted, and the answer says so.
pub record IsSchedule (answer text : List ℕ) : Type 0 where
  pub plan : Plan
  pub good : IsPlan plan
  pub read : Spells text plan
  pub accepted : (run_by (start_of plan.front) plan).accepted ≡ plan.events
  pub said : answer
      ≡ subject_text (codes "a schedule: ") plan.shape.processes plan.shape.registers (front_name plan.front)
      (length plan.events) (codes " event") (codes " events")
      ++ (codes ", all accepted" ++ 10 ∷ [])

-- The text says a workload, and the answer says so, with how many operations it has.
pub record IsWorkload (answer text : List ℕ) : Type 0 where
  pub work : Load
  pub holds : Holds text work
  pub said : answer
      ≡ subject_text (codes "a workload: ") work.shape.processes work.shape.registers (front_name work.front)
      (sum_by length work.scripts) (codes " operation") (codes " operations")
      ++ 10 ∷ []

-- what stands after the numbers of a report of which every verdict is yes
abbrev pub yes_text : Option (List Point) → List ℕ
yes_text None =
    codes "; serial yes; no points, so real time is not judged: awshow find points looks for some" ++ 10 ∷ []
yes_text (Some points) = codes "; serial yes; points yes" ++ 10 ∷ []

-- The text is that of a report of which every verdict is yes, and the answer says so.
pub record Agrees (answer text : List ℕ) : Type 0 where
  pub report : Contents
  pub good : IsReport report
  pub read : SpellsReport text report
  pub verdicts : Verdicts
  pub judged : Judges report verdicts
  pub yes : all_yes verdicts ≡ true
  pub said : answer
      ≡ subject_text (codes "a report: ") report.shape.processes report.shape.registers report.front
      (length report.entries) (codes " entry") (codes " entries")
      ++ yes_text report.points

-- The text is that of a report of which some verdict is no, and the answer begins with the line of the first such one.
pub record Disagrees (answer text : List ℕ) : Type 0 where
  pub report : Contents
  pub good : IsReport report
  pub read : SpellsReport text report
  pub verdicts : Verdicts
  pub judged : Judges report verdicts
  pub no : all_yes verdicts ≡ false
  pub rest : List ℕ
  pub begins : answer ≡ first_no verdicts ++ rest

-- whether a text of this kind is accepted, and the answer that it gets
abbrev pub Tells : Kind → Bool → List ℕ → List ℕ → Type 0
Tells Report true answer text = Agrees answer text
Tells Report false answer text = Refuses Check answer text ⊎ Disagrees answer text
Tells Schedule true answer text = IsSchedule answer text
Tells Schedule false answer text = Refuses Replay answer text
Tells WorkloadKind true answer text = IsWorkload answer text
Tells WorkloadKind false answer text = Refuses (Play false) answer text

-- the same of any text: of one that begins as records do, and of another one by its kind
abbrev pub TellsAny : Bool → Bool → List ℕ → List ℕ → Type 0
TellsAny true is_accepted answer text = TellsRecord is_accepted answer text
TellsAny false is_accepted answer text = Tells (kind_of text) is_accepted answer text

-- the text got the answer of its kind: `Wrote` says how it was written
abbrev pub Answers : Bool → (List ℕ → Type 0) → List ℕ → Type 0
Answers is_accepted Wrote text =
    (answer : List ℕ) × TellsAny (begins_record text) is_accepted answer text × Wrote answer
