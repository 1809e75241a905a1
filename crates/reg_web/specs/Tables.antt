-- How the front end of a table starts an operation, and that it keeps the laws.
use Rattle.std.proofs.Common.{◌≡◌, ℕ, ◌<◌, ◌/◌, ◌%◌, Bool, true, false, refl, arith}
use Rattle.std.specs.Prelude.{◌==◌, cond}
use Rattle.std.proofs.lemmas.Bool.{eqb-true}
use Rattle.std.proofs.lemmas.Bool.Decides.{nat_tests}
use Rattle.reg_base.specs.declared.memory.Op.{Op}
use Rattle.reg_base.specs.declared.memory.Op.TheVariants.{Read, Write, Swap, CompareAndSwap}
use Rattle.reg_front.specs.Fronts.{MayStart, KeepsLaws}
use Rattle.reg_front.specs.declared.starts.Start.{Start}
use Rattle.reg_front.specs.declared.starts.Start.TheVariants.{Cast as Casts, CastAndAnswer as CastsAndAnswers}
use Rattle.reg_front.specs.declared.starts.Start.TheVariants.{Look as Looks, Hold as Holds}
use Rattle.reg_web.specs.declared.tables.Table.{Table}

-- the table of a number, by its last four binary digits
abbrev pub table_of : ℕ → Table
table_of number = record {
  looks = number % 2 == 1;
  holds = number / 2 % 2 == 1;
  answers_first = number / 4 % 2 == 1;
  answers_later = number / 8 % 2 == 1;
}

-- How an operation starts, by the number of own casts on their way, where these four rows are chosen: a read looks at
-- the copy, a read is held, a first write is answered at once, and a later one.
abbrev pub start_by : (looks holds first later : Bool) → Op → ℕ → Start
start_by looks holds first later (Read r) unsettled =
    cond (unsettled == 0) (cond looks Looks Casts) (cond holds Holds Casts)
start_by looks holds first later (Write r v) unsettled =
    cond (unsettled == 0) (cond first CastsAndAnswers Casts) (cond later CastsAndAnswers Casts)
start_by looks holds first later (Swap r v) unsettled = Casts
start_by looks holds first later (CompareAndSwap r e v) unsettled = Casts

-- how the front end of this table starts an operation
abbrev pub start_in : Table → Op → ℕ → Start
start_in t = start_by t.looks t.holds t.answers_first t.answers_later

reads : (r u : ℕ) (looks holds none : Bool) → (u == 0) ≡ none
    → MayStart (Read r) u (cond none (cond looks Looks Casts) (cond holds Holds Casts))
reads r u true holds true is = (refl, eqb-true u 0 is)
reads r u false holds true is = tt
reads r u looks true false is = (refl, (let some : 0 < u = grind (arith, nat_tests) in some))
reads r u looks false false is = tt

may_answer : (r v u : ℕ) (answers : Bool) → MayStart (Write r v) u (cond answers CastsAndAnswers Casts)
may_answer r v u true = λ m. refl
may_answer r v u false = tt

writes : (r v u : ℕ) (first later none : Bool)
    → MayStart (Write r v) u (cond none (cond first CastsAndAnswers Casts) (cond later CastsAndAnswers Casts))
writes r v u first later true = may_answer r v u first
writes r v u first later false = may_answer r v u later

-- whatever is chosen, the laws are kept
pub rows_keep : (looks holds first later : Bool) → KeepsLaws (start_by looks holds first later)
rows_keep looks holds first later (Read r) u = reads r u looks holds (u == 0) refl
rows_keep looks holds first later (Write r v) u = writes r v u first later (u == 0)
rows_keep looks holds first later (Swap r v) u = tt
rows_keep looks holds first later (CompareAndSwap r e v) u = tt
