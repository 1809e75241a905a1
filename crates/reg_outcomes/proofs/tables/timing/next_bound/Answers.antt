use Rattle.std.proofs.Common.{ℕ, Option, sym, subst, arith}
use Rattle.std.specs.Prelude.{IfSome, ◌<◌, ◌-◌, ◌^◌}
use Rattle.reg_outcomes.proofs.tables.timing.next_bound.Goals as goal

pub overflow_add-place : goal.overflow_add-place
overflow_add-place g c =
    let fits : c.in-Some-get.place.now < 2 ^ 64 - 1 = subst (λ (o : Option ℕ). IfSome o (λ p. p < 2 ^ 64 - 1)) (sym c.in-Some-get.ensures.value) (c.requires c.in-Answered.id) in
    omega (arith, fits)
