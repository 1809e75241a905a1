-- What was found out, and how its text was written.
use Rattle.std.proofs.Common.{ℕ, ◌≡◌, List, Bool, Option, Some, None, Result, Ok, Err, subst}
use Rattle.std.specs.Prelude.{IfOk, IfSome}
use Rattle.reg_observed.specs.declared.flags.JudgeFlags.{JudgeFlags}
use Rattle.reg_observed.specs.Commands.{IsJudgedText}

pub judged_as : (flags : JudgeFlags) (found : Bool) (P Q : List ℕ → Type 0) (text : List ℕ)
    → IsJudgedText flags found P text → ((answer : List ℕ) → P answer → Q answer) → IsJudgedText flags found Q text
judged_as flags found P Q text j to = record {
  told = j.told;
  tells = j.tells;
  heard = j.heard;
  events = j.events;
  processes = j.processes;
  keys = j.keys;
  values = j.values;
  verdict = j.verdict;
  judged = j.judged;
  says = j.says;
  written = (j.written.0, j.written.1, to j.written.0 j.written.2);
}

-- what is said of a text that was read is said of the input, if it is known
pub of_input : {E : Type 0} (P : Bool → List ℕ → Type 0) (r : Result Bool E) (input : Option (List ℕ)) (text : List ℕ)
    → IfSome input (λ xs. text ≡ xs) → IfOk r (λ found. P found text) → IfOk r (λ found. IfSome input (P found))
of_input P (Ok found) None text same said = tt
of_input P (Ok found) (Some xs) text same said = subst (P found) same said
of_input P (Err e) input text same said = tt
