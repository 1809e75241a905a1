-- The order of stages.
use Rattle.std.proofs.Common.{◌≡◌, true, ap, refl, ◌∙◌}
use Rattle.std.specs.declared.cmp.Ordering.{Ordering}
use Rattle.std.specs.declared.cmp.Ordering.TheVariants.{Less, Equal, Greater}
use Rattle.std.specs.Ordering.{is_eq, nat_cmp, ordering_then}
use Rattle.std.specs.Cmp.{IsTotalOrder}
use Rattle.std.specs.Cmp.Lexicographic.{slice_cmp}
use Rattle.std.proofs.lemmas.Cmp.{nat_list_cmp_total, on_total, then_total}
use Rattle.std.proofs.lemmas.Map.Lookups.{CmpEqualImpliesEq, exact_bytes}
use Rattle.reg_outcomes.specs.Told.{told_cmp}
use Rattle.reg_outcomes.proofs.ToldOrder.{both_equal, outcomes_exact, outcomes_total}
use Rattle.reg_outcomes.specs.Layers.{stage_cmp}

pub stages_total : IsTotalOrder stage_cmp
stages_total = then_total (on_total (λ s. s.next) nat_list_cmp_total) (then_total (on_total (λ s. s.memory) nat_list_cmp_total) (on_total (λ s. s.told) outcomes_total))

-- stages that compare alike are one
pub stages_exact : CmpEqualImpliesEq stage_cmp
stages_exact a b h =
    let first = both_equal (slice_cmp nat_cmp a.next b.next) (ordering_then (slice_cmp nat_cmp a.memory b.memory) (slice_cmp told_cmp a.told b.told)) h in
    let second = both_equal (slice_cmp nat_cmp a.memory b.memory) (slice_cmp told_cmp a.told b.told) first.1 in
    let next : a.next ≡ b.next = exact_bytes a.next b.next first.0 in
    let memory : a.memory ≡ b.memory = exact_bytes a.memory b.memory second.0 in
    let told : a.told ≡ b.told = outcomes_exact a.told b.told second.1 in
    ap (λ n. record { next = n; memory = a.memory; told = a.told }) next ∙ ap (λ m. record { next = b.next; memory = m; told = a.told }) memory ∙ ap (λ t. record { next = b.next; memory = b.memory; told = t }) told

pub equal_is : (o : Ordering) → is_eq o ≡ true → o ≡ Equal
equal_is Less h = absurd cc
equal_is Equal h = refl
equal_is Greater h = absurd cc
