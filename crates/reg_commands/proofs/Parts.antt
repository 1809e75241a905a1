-- An answer that was written, or a first part of it.
use Rattle.std.proofs.Common.{◌≡◌, ◌≢◌, ℕ, Bool, List, Option, Some, None, Result, Ok, Err, subst, sym, ◌∙◌, refl}
use Rattle.std.specs.Prelude.{IfOk, IfErr, IfSome, MatchResult}
use Rattle.std.specs.Io.KnownBytes.{Appends}
use Rattle.reg_text.specs.Writing.{AppendsPart}
use Rattle.reg_inputs.specs.Loads.{Load}
use Rattle.reg_history.specs.Reports.{Contents, IsReport, SpellsReport, report_text}
use Rattle.reg_commands.specs.declared.faults.Fault.{Fault}
use Rattle.reg_commands.specs.declared.faults.Fault.TheVariants.{Output}
use Rattle.reg_commands.specs.declared.verdicts.Verdicts.{Verdicts}
use Rattle.reg_commands.specs.declared.command.Command.TheVariants.{Play}
use Rattle.reg_commands.specs.Verdicts.{Judges, all_yes, verdicts_text}
use Rattle.reg_commands.specs.Plays.{Holds, IsReportOfPlay, Plays}
use Rattle.reg_commands.specs.Answers.{Checks, Blames}

-- what holds of a text that was read holds of the input
pub of_input : (P : List ℕ → Type 0) (input : Option (List ℕ)) (read text : List ℕ) → IfSome input (λ xs. read ≡ xs)
    → text ≡ read → P text → IfSome input P
of_input P None read text e same p = tt
of_input P (Some xs) read text e same p = subst P (same ∙ e) p

-- the report of a play that was written
pub play_written : (fair : Bool) (old new : Option (List ℕ)) (text : List ℕ) (work : Load) (report : Contents)
    (r : Result Unit Fault)
    → Holds text work → IsReportOfPlay fair work report
    → MatchResult r (λ _. Appends old new (report_text report))
    (λ f. (f ≡ Output) × AppendsPart old new (report_text report))
    → IfOk r (λ _. Plays fair (Appends old new) text)
play_written fair old new text work report (Ok x) h s m =
    record { work = work; holds = h; report = report; shown = s; written = m }
play_written fair old new text work report (Err f) h s m = tt

-- the verdicts on the report that a text spells
pub judged_text : (text read : List ℕ) (r : Contents) (v : Verdicts) → read ≡ text → SpellsReport read r × IsReport r
    → Judges r v → (x : Contents) × IsReport x × SpellsReport text x × Judges x v
judged_text text read r v same spelled judged = (r, spelled.1, subst (λ t. SpellsReport t r) same spelled.0, judged)

-- verdicts of which a first part was written
pub checks_with : (Wrote : List ℕ → Type 0) (text : List ℕ) (v : Verdicts)
    → (r : Contents) × IsReport r × SpellsReport text r × Judges r v → Wrote (verdicts_text v)
    → Checks (all_yes v) Wrote text
checks_with Wrote text v h m =
    record { report = h.0; good = h.1; read = h.2; verdicts = v; judged = h.3; says = refl; written = m }

-- only the writer can fail once a play is made
pub play_blamed : (fair : Bool) (text : List ℕ) (work : Load) (P Q : Type 0) (r : Result Unit Fault) → Holds text work
    → MatchResult r (λ _. P) (λ f. (f ≡ Output) × Q) → IfErr r (λ f. Blames (Play fair) f text)
play_blamed fair text work P Q (Ok x) h m = tt
play_blamed fair text work P Q (Err f) h m = subst (λ g. Blames (Play fair) g text) (sym m.0) (work, h)

pub only_output : (P Q R : Type 0) (r : Result Unit Fault) → MatchResult r (λ _. P) (λ f. (f ≡ Output) × Q)
    → IfErr r (λ f. f ≢ Output → R)
only_output P Q R (Ok x) m = tt
only_output P Q R (Err f) m = λ other. absurd (other m.0)
