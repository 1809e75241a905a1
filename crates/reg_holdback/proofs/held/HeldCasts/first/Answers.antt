use Rattle.std.proofs.Common.{refl, ap, subst, arith, ◌∙◌, ◌<◌, length}
use Rattle.std.specs.Prelude.{slice_get}
use Rattle.std.specs.BinaryHeap.{heap_items}
use Rattle.reg_base.specs.Order.{Rising}
use Rattle.reg_holdback.proofs.Heaped.{first_is, rises}
use Rattle.reg_holdback.proofs.held.HeldCasts.first.Goals as goal

pub returns-in-Some-clause-first : goal.returns-in-Some-clause-first
returns-in-Some-clause-first g c =
    let some = c.in-Some.ensures.variant.0 refl in
    let long : 0 < length (heap_items c.self.inside.heap) = omega (arith, some) in
    first_is (heap_items c.self.inside.heap) c.in-Some.held.now c.self.invariant.1 long c.in-Some.ensures.lookup (c.in-Some.ensures.greatest c.self.invariant.0)
    ∙ ap (λ l. slice_get l 0) c.self.view_is

pub returns-in-Some-clause-rising : goal.returns-in-Some-clause-rising
returns-in-Some-clause-rising g c =
    subst Rising c.self.view_is (rises (heap_items c.self.inside.heap) c.self.invariant.1)

pub returns-in-None-clause-rising : goal.returns-in-None-clause-rising
returns-in-None-clause-rising g c =
    subst Rising c.self.view_is (rises (heap_items c.self.inside.heap) c.self.invariant.1)
