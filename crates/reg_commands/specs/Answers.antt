-- What a command answers to a text, and what a fault says of the text.
use Rattle.std.specs.Prelude.{ℕ, ◌≡◌, ◌<◌, ◌≤◌, ⊤, Bool, true, List, length, Option}
use Rattle.std.specs.Str.{IsUtf8}
use Rattle.reg_text.specs.Writing.{AppendsPart}
use Rattle.reg_text.specs.declared.faults.Why.{Why}
use Rattle.reg_base.specs.declared.limits.TheConstants.{LONGEST_INPUT}
use Rattle.reg_history.specs.ReadFaults.{why_of}
use Rattle.reg_history.specs.Refusals.{RefusesReportLine}
use Rattle.reg_history.specs.Reports.{Contents, IsReport, SpellsReport}
use Rattle.reg_history.specs.declared.report_faults.ReadWhy.{ReadWhy}
use Rattle.reg_commands.specs.declared.command.Command.{Command}
use Rattle.reg_commands.specs.declared.command.Command.TheVariants.{Replay, Check, Play}
use Rattle.reg_commands.specs.declared.faults.Fault.{Fault}
use Rattle.reg_commands.specs.declared.faults.Fault.TheVariants.{Unread, TooLong, NotText, Output, Line, Event}
use Rattle.reg_commands.specs.declared.faults.Fault.TheVariants.{Workload, OutOfMemory}
use Rattle.reg_commands.specs.declared.verdicts.Verdicts.{Verdicts}
use Rattle.reg_world.specs.declared.faults.WorldFault.{WorldFault}
use Rattle.reg_inputs.specs.declared.faults.WorkloadFault.{WorkloadFault}
use Rattle.reg_inputs.specs.Loads.{Load}
use Rattle.reg_inputs.specs.Refusals.{RefusesLine}
use Rattle.reg_inputs.specs.Schedules.{Plan, IsPlan, Spells}
use Rattle.reg_commands.specs.Replays.{start_of, run_by, Replays, RefusesAt}
use Rattle.reg_commands.specs.Plays.{Holds, RefusesDocument, Plays}
use Rattle.reg_commands.specs.Verdicts.{Judges, all_yes, verdicts_text}

-- The text is that of a report, and the verdicts on it were written: `Wrote` says how a text was written.
pub record Checks (agrees : Bool) (Wrote : List ℕ → Type 0) (text : List ℕ) : Type 0 where
  pub report : Contents
  pub good : IsReport report
  pub read : SpellsReport text report
  pub verdicts : Verdicts
  pub judged : Judges report verdicts
  pub says : agrees ≡ all_yes verdicts
  pub written : Wrote (verdicts_text verdicts)

-- what was read, whether every line agrees, and what was written
abbrev pub Answers : Command → Bool → (List ℕ → Type 0) → List ℕ → Type 0
Answers Replay agrees Wrote text = (agrees ≡ true) × Replays Wrote text
Answers Check agrees Wrote text = Checks agrees Wrote text
Answers (Play fair) agrees Wrote text = (agrees ≡ true) × Plays fair Wrote text

-- what was read where the writer failed: a first part of an answer went out
abbrev pub AnswersInPart : Command → Option (List ℕ) → Option (List ℕ) → List ℕ → Type 0
AnswersInPart command old new text = (agrees : Bool) × Answers command agrees (AppendsPart old new) text

-- the text is not one that the command reads, as a line shows, with its number and its reason: for a schedule the first
-- line with which no schedule goes on, and for a report the first that may not follow those before it; no line of a
-- document is named
abbrev pub IsRefused : Command → ℕ → ReadWhy → List ℕ → Type 0
IsRefused Replay line why text =
    ((p : Plan) → IsPlan p → ¬ Spells text p)
    × (length text ≤ LONGEST_INPUT → (told : Why) × (why ≡ why_of told) × RefusesLine line told text)
IsRefused Check line why text =
    ((r : Contents) → ¬ SpellsReport text r) × (length text ≤ LONGEST_INPUT → RefusesReportLine line why text)
IsRefused (Play fair) line why text = ⊥

-- the text's events are refused at this one, for this cause
abbrev pub IsRefusedAt : Command → ℕ → WorldFault → List ℕ → Type 0
IsRefusedAt Replay at fault text = RefusesAt at fault text
IsRefusedAt Check at fault text = ⊥
IsRefusedAt (Play fair) at fault text = ⊥

-- the text says no workload, for this reason
abbrev pub IsRefusedFor : Command → WorkloadFault → List ℕ → Type 0
IsRefusedFor Replay fault text = ⊥
IsRefusedFor Check fault text = ⊥
IsRefusedFor (Play fair) fault text = RefusesDocument text fault

-- The text is one that the command accepts: that of a report, of a plan all of whose events are accepted, or of a
-- workload.
abbrev pub IsAccepted : Command → List ℕ → Type 0
IsAccepted Replay text = (p : Plan) × IsPlan p × Spells text p × ((run_by (start_of p.front) p).accepted ≡ p.events)
IsAccepted Check text = (r : Contents) × SpellsReport text r
IsAccepted (Play fair) text = (work : Load) × Holds text work

-- what a fault says of the input; that the output failed is told only of what is accepted
abbrev pub Blames : Command → Fault → List ℕ → Type 0
Blames command Unread xs = ⊤
Blames command TooLong xs = LONGEST_INPUT < length xs
Blames command NotText xs = ¬ (IsUtf8 xs)
Blames command Output xs = IsAccepted command xs
Blames command (Line line why) xs = IsRefused command line why xs
Blames command (Event at fault) xs = IsRefusedAt command at fault xs
Blames command (Workload fault) xs = IsRefusedFor command fault xs
Blames command OutOfMemory xs = ⊤
