use Rattle.std.proofs.Common.{◌∷◌, sym, ◌∙◌}
use Rattle.std.specs.BinaryHeap.{heap_items}
use Rattle.reg_holdback.proofs.Heaped.{popped, apart_less, apart_permuted, unchanged_kept}
use Rattle.reg_holdback.proofs.held.HeldCasts.pop_first.Goals as goal

pub invariant_of-self : goal.invariant_of-self
invariant_of-self g c = unchanged_kept (heap_items c.self.inside.heap) (heap_items c.pop.new.self) c.in_err-held.ensures.unchanged.0 c.self.invariant

pub invariant_of-self-2 : goal.invariant_of-self-2
invariant_of-self-2 g c = (
  (c.in_ok-held.ensures.heap_order c.self.invariant.0).0,
  apart_less c.in_ok-held.held (heap_items c.pop.new.self) (apart_permuted (heap_items c.self.inside.heap) (c.in_ok-held.held ∷ heap_items c.pop.new.self) c.in_ok-held.ensures.permutation c.self.invariant.1),
)

pub returns : goal.returns
returns g c =
    sym c.self.view_is
    ∙ popped (heap_items c.self.inside.heap) (heap_items c.pop.new.self) c.in_ok-held.held c.self.invariant.1 c.in_ok-held.ensures.permutation (c.in_ok-held.ensures.below_top c.self.invariant.0)
