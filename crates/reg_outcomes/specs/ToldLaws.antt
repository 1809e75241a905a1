-- The order of told answers is total, and two answers tie in it exactly where they are equal. The laws of its `impl`
-- cite these: no promise speaks of them.
use Rattle.std.proofs.Common.{◌≡◌, ℕ, Bool, true, false, refl, sym, ap, ap₂, ◌∙◌}
use Rattle.std.specs.Prelude.{◌==◌, ◌&&◌}
use Rattle.std.specs.Ordering.{nat_cmp, ordering_then, is_eq, eq_by_cmp, as_partial_cmp}
use Rattle.std.specs.Cmp.{IsTotalOrder, IsPartialOrder, Equal-is, both_ways, nat_cmp_total, on_total, po, then_total}
use Rattle.std.specs.Cmp.{tied_itself}
use Rattle.std.specs.FinMap.{nat_cmp-IsAntisymmetric}
use Rattle.std.specs.declared.cmp.Ordering.{Ordering}
use Rattle.std.specs.declared.cmp.Ordering.TheVariants.{Less, Equal, Greater}
use Rattle.std.proofs.lemmas.Bool.{eqb-true, eq-eqb}
use Rattle.reg_base.specs.declared.memory.Answer.{Answer}
use Rattle.reg_base.specs.declared.memory.Answer.TheVariants.{Done, Value, Unequal}
use Rattle.reg_outcomes.specs.declared.told.ToldAnswer.{ToldAnswer}
use Rattle.reg_outcomes.specs.Told.{answer_cmp, kind_of, told_cmp, value_of}

pub answer_total : IsTotalOrder answer_cmp
answer_total = then_total (on_total kind_of nat_cmp_total) (on_total value_of nat_cmp_total)

pub told_total : IsTotalOrder told_cmp
told_total =
    then_total (on_total (λ t. t.process) nat_cmp_total)
    (then_total (on_total (λ t. t.number) nat_cmp_total) (on_total (λ t. t.answer) answer_total))

number_ties : (x y : ℕ) → (x == y) ≡ is_eq (nat_cmp x y)
number_ties x y =
    both_ways (x == y) (is_eq (nat_cmp x y))
    (λ e. ap is_eq (ap (nat_cmp x) (sym (eqb-true x y e)) ∙ tied_itself nat_cmp_total x))
    (λ e. eq-eqb x y (nat_cmp-IsAntisymmetric x y ((Equal-is (nat_cmp x y)).0 e)))

both_tie : (s t : Ordering) → (is_eq s && is_eq t) ≡ is_eq (ordering_then s t)
both_tie Less t = refl
both_tie Equal t = refl
both_tie Greater t = refl

-- a test of answers that says whether they are of one kind, with one value
pub record TestsAnswers (Is : Answer → Answer → Bool) : Type 0 where
  pub done : Is Done Done ≡ true
  pub values : (x y : ℕ) → Is (Value x) (Value y) ≡ (x == y)
  pub unequal : Is Unequal Unequal ≡ true
  pub done_value : (y : ℕ) → Is Done (Value y) ≡ false
  pub done_unequal : Is Done Unequal ≡ false
  pub value_done : (x : ℕ) → Is (Value x) Done ≡ false
  pub value_unequal : (x : ℕ) → Is (Value x) Unequal ≡ false
  pub unequal_done : Is Unequal Done ≡ false
  pub unequal_value : (y : ℕ) → Is Unequal (Value y) ≡ false

module _ (Is : Answer → Answer → Bool) (tests : TestsAnswers Is) where
  answer_ties : (a b : Answer) → Is a b ≡ is_eq (answer_cmp a b)
  answer_ties Done Done = tests.done
  answer_ties Done (Value y) = tests.done_value y
  answer_ties Done Unequal = tests.done_unequal
  answer_ties (Value x) Done = tests.value_done x
  answer_ties (Value x) (Value y) = tests.values x y ∙ number_ties x y
  answer_ties (Value x) Unequal = tests.value_unequal x
  answer_ties Unequal Done = tests.unequal_done
  answer_ties Unequal (Value y) = tests.unequal_value y
  answer_ties Unequal Unequal = tests.unequal

  -- told answers are equal exactly where they tie
  pub told_ties : (a b : ToldAnswer)
      → ((a.process == b.process) && ((a.number == b.number) && Is a.answer b.answer)) ≡ eq_by_cmp told_cmp a b
  told_ties a b =
      ap₂ (λ s t. s && t) (number_ties a.process b.process)
      (ap₂ (λ s t. s && t) (number_ties a.number b.number) (answer_ties a.answer b.answer) ∙ both_tie
      (nat_cmp a.number b.number) (answer_cmp a.answer b.answer))
      ∙ both_tie (nat_cmp a.process b.process)
      (ordering_then (nat_cmp a.number b.number) (answer_cmp a.answer b.answer))

  pub told_partial : IsPartialOrder
      (λ a b. (a.process == b.process) && ((a.number == b.number) && Is a.answer b.answer)) (as_partial_cmp told_cmp)
  told_partial = po told_total told_ties
