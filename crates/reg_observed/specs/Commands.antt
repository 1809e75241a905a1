-- What the command that judges a history writes. To be believed: promises speak of it.
use Rattle.std.specs.Prelude.{ℕ, ◌≡◌, Bool, true, false, List, Option, Some, None, Ok, is_some, option_copied, Vec}
use Rattle.std.specs.declared.alloc.Global.{Global}
use Rattle.reg_checkers.specs.declared.entries.Entry.{Entry}
use Rattle.reg_checkers.specs.declared.entries.Point.{Point}
use Rattle.reg_commands.specs.Kinds.{kind_of}
use Rattle.reg_commands.specs.declared.kinds.Kind.{Kind}
use Rattle.reg_commands.specs.declared.kinds.Kind.TheVariants.{Report, Schedule, Workload}
use Rattle.reg_history.specs.Reports.{Contents, report_text}
use Rattle.reg_judge.specs.Reported.{IsReportOf, JudgesReport, Says}
use Rattle.reg_observed.specs.declared.flags.JudgeFlags.{JudgeFlags}
use Rattle.reg_observed.specs.declared.heard.Heard.{Heard}
use Rattle.reg_observed.specs.declared.judging.Verdict.{Verdict}
use Rattle.reg_observed.specs.Told.{Telling}
use Rattle.reg_observed.specs.Heard.{AreDistinct}
use Rattle.reg_observed.specs.Reading.{AreEvents}
use Rattle.reg_observed.specs.Histories.{text_tells}
use Rattle.reg_observed.specs.Verdicts.{IsJudged}

-- The text of a report, where one is asked for and there are points; and else one that begins with a word, with lines
-- for a person.
abbrev pub IsAnswerWith : {A : Type 0} → Bool → ℕ → List Entry → Option (Vec Point A) → List ℕ → Type 0
IsAnswerWith true registers entries (Some points) text =
    (r : Contents) × IsReportOf registers entries points.items r × (text ≡ report_text r)
IsAnswerWith true registers entries None text = Says false text
IsAnswerWith false registers entries points text = Says (is_some points) text

abbrev pub IsAnswer : {A : Type 0} → Bool → Verdict A → List ℕ → Type 0
IsAnswer report v text = IsAnswerWith report v.history.shape.registers v.history.entries v.points text

-- The text tells a history, as lines of JSON or as EDN, this is found out of it, and the answer was written: a report
-- or a word, as the flags ask. `Wrote` says how a text was written.
pub record IsJudgedText (flags : JudgeFlags) (found : Bool) (Wrote : List ℕ → Type 0) (text : List ℕ) : Type 0 where
  pub told : List (ℕ × Telling)
  pub tells : text_tells text ≡ Ok told
  pub heard : Heard
  pub events : AreEvents heard.words told heard.events.items
  pub processes : AreDistinct heard.words.processes
  pub keys : AreDistinct heard.words.keys
  pub values : AreDistinct heard.words.values
  pub verdict : Verdict Global
  pub judged : IsJudged (option_copied flags.first) heard verdict
  pub says : is_some verdict.points ≡ found
  pub written : (answer : List ℕ) × IsAnswer flags.report verdict answer × Wrote answer

-- What is judged of a text by its kind: the history of a report, whose registers begin with 0, so that no first value
-- is asked for; or else lines of JSON or EDN.
abbrev pub IsJudgedAs : Kind → JudgeFlags → Bool → (List ℕ → Type 0) → List ℕ → Type 0
IsJudgedAs Report flags found Wrote text = (is_some flags.first ≡ false) × JudgesReport flags.report found Wrote text
IsJudgedAs Schedule flags found Wrote text = IsJudgedText flags found Wrote text
IsJudgedAs Workload flags found Wrote text = IsJudgedText flags found Wrote text

abbrev pub IsAnyJudged : JudgeFlags → Bool → (List ℕ → Type 0) → List ℕ → Type 0
IsAnyJudged flags found Wrote text = IsJudgedAs (kind_of text) flags found Wrote text
