-- What was found out of a report, and how its text was written.
use Rattle.std.proofs.Common.{ℕ, List, Bool, Option, ◌≡◌, subst}
use Rattle.std.specs.Io.KnownBytes.{Appends}
use Rattle.reg_text.specs.Writing.{AppendsPart}
use Rattle.reg_judge.specs.Reported.{JudgesReport}

pub judged_as : (as_report found : Bool) (P Q : List ℕ → Type 0) (text : List ℕ) → JudgesReport as_report found P text
    → ((answer : List ℕ) → P answer → Q answer) → JudgesReport as_report found Q text
judged_as as_report found P Q text j to = record {
  report = j.report;
  read = j.read;
  order = j.order;
  rulings = j.rulings;
  serial = j.serial;
  judged = j.judged;
  says = j.says;
  written = (j.written.0, j.written.1, to j.written.0 j.written.2);
}

pub sent_as : (old new : Option (List ℕ)) (a b : List ℕ) → Appends old new a → a ≡ b → Appends old new b
sent_as old new a b sent same = let P : List ℕ → Type 0 = λ x. Appends old new x in subst P same sent

pub sent_in_part : (old new : Option (List ℕ)) (a b : List ℕ) → AppendsPart old new a → a ≡ b → AppendsPart old new b
sent_in_part old new a b sent same = let P : List ℕ → Type 0 = λ x. AppendsPart old new x in subst P same sent
