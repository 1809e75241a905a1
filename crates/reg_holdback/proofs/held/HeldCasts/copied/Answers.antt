use Rattle.std.proofs.Common.{sym, subst, ap, ◌∙◌}
use Rattle.std.specs.BinaryHeap.{heap_items}
use Rattle.reg_holdback.specs.Heap.{AreApart, in_order}
use Rattle.reg_holdback.proofs.Heaped.{one_order, apart_permuted}
use Rattle.reg_holdback.proofs.held.HeldCasts.copied.Goals as goal

pub invariant_of-result : goal.invariant_of-result
invariant_of-result g c =
    let same = c.in_ok-casts.ensures.items ∙ c.as_slice.ensures.value in
    (c.from.ensures.2, apart_permuted c.in_ok-casts.casts.items (heap_items c.from.result) c.from.ensures.1 (subst AreApart (sym same) c.self.invariant.1))

pub returns : goal.returns
returns g c =
    let same = c.in_ok-casts.ensures.items ∙ c.as_slice.ensures.value in
    one_order c.in_ok-casts.casts.items (heap_items c.from.result) c.from.ensures.1 (subst AreApart (sym same) c.self.invariant.1)
    ∙ ap in_order same
    ∙ c.self.view_is
