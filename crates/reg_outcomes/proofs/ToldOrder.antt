-- The order of told answers and of outcomes.
use Rattle.std.proofs.Common.{◌≡◌, ℕ, [], ◌∷◌, refl, ap, ap₂}
use Rattle.std.specs.declared.cmp.Ordering.{Ordering}
use Rattle.std.specs.declared.cmp.Ordering.TheVariants.{Less, Equal, Greater}
use Rattle.std.specs.Ordering.{nat_cmp, ordering_then}
use Rattle.std.specs.Cmp.{IsTotalOrder}
use Rattle.std.specs.Cmp.Lexicographic.{slice_cmp}
use Rattle.std.proofs.lemmas.Cmp.{lists_total}
use Rattle.std.proofs.lemmas.Map.Lookups.{CmpEqualImpliesEq, exact_unsigned, exact_pairs}
use Rattle.reg_base.specs.declared.memory.Answer.{Answer}
use Rattle.reg_base.specs.declared.memory.Answer.TheVariants.{Done, Value, Unequal}
use Rattle.reg_outcomes.specs.Told.{answer_cmp, told_cmp}
use Rattle.reg_outcomes.specs.ToldLaws.{told_total}

pub outcomes_total : IsTotalOrder (slice_cmp told_cmp)
outcomes_total = lists_total told_total

answer_exact : CmpEqualImpliesEq answer_cmp
answer_exact Done Done h = refl
answer_exact Done (Value y) h = absurd (let bad : ⊥ = cc in bad)
answer_exact Done Unequal h = absurd (let bad : ⊥ = cc in bad)
answer_exact (Value x) Done h = absurd (let bad : ⊥ = cc in bad)
answer_exact (Value x) (Value y) h = ap Value (exact_unsigned x y h)
answer_exact (Value x) Unequal h = absurd (let bad : ⊥ = cc in bad)
answer_exact Unequal Done h = absurd (let bad : ⊥ = cc in bad)
answer_exact Unequal (Value y) h = absurd (let bad : ⊥ = cc in bad)
answer_exact Unequal Unequal h = refl

pub told_exact : CmpEqualImpliesEq told_cmp
told_exact a b h = ap (λ (p : ℕ × (ℕ × Answer)). record { process = p.0; number = p.1.0; answer = p.1.1 })
    (exact_pairs nat_cmp (λ (x y : ℕ × Answer). ordering_then (nat_cmp x.0 y.0) (answer_cmp x.1 y.1)) exact_unsigned (exact_pairs nat_cmp answer_cmp exact_unsigned answer_exact) (a.process, (a.number, a.answer)) (b.process, (b.number, b.answer)) h)

pub both_equal : (a b : Ordering) → ordering_then a b ≡ Equal → (a ≡ Equal) × (b ≡ Equal)
both_equal Less b h = absurd cc
both_equal Equal b h = (refl, h)
both_equal Greater b h = absurd cc

pub outcomes_exact : CmpEqualImpliesEq (slice_cmp told_cmp)
outcomes_exact [] [] h = refl
outcomes_exact [] (y ∷ ys) h = absurd cc
outcomes_exact (x ∷ xs) [] h = absurd cc
outcomes_exact (x ∷ xs) (y ∷ ys) h =
    let both = both_equal (told_cmp x y) (slice_cmp told_cmp xs ys) h in
    ap₂ (λ a b. a ∷ b) (told_exact x y both.0) (outcomes_exact xs ys both.1)
