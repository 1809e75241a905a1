use Rattle.std.proofs.Common.{◌∷◌, ap, ◌∙◌}
use Rattle.std.specs.BinaryHeap.{heap_items}
use Rattle.reg_base.specs.Order.{insert}
use Rattle.reg_base.specs.declared.stamps.Delivered.{Delivered}
use Rattle.reg_holdback.specs.declared.held.HeldCast.{HeldCast}
use Rattle.reg_holdback.proofs.Heaped.{one_order, apart_fresh, apart_permuted, unchanged_kept}
use Rattle.reg_holdback.proofs.held.HeldCasts.insert.Goals as goal

pub invariant_of-self : goal.invariant_of-self
invariant_of-self g c = unchanged_kept (heap_items c.self.inside.heap) (heap_items c.push.new.self) c.in_err-push.ensures.unchanged.0 c.self.invariant

pub invariant_of-self-2 : goal.invariant_of-self-2
invariant_of-self-2 g c =
    let h : HeldCast = record { cast = record { stamp = c.args.stamp; op = c.args.op } } in
    let hs = heap_items c.self.inside.heap in
    (c.in_ok-push.ensures.heap_order c.self.invariant.0, apart_permuted (h ∷ hs) (heap_items c.push.new.self) c.in_ok-push.ensures.permutation (apart_fresh h hs c.args.self.now c.self.view_is c.self.invariant.1 c.requires))

pub returns-clause-entries : goal.returns-clause-entries
returns-clause-entries g c =
    let h : HeldCast = record { cast = record { stamp = c.args.stamp; op = c.args.op } } in
    let hs = heap_items c.self.inside.heap in
    one_order (h ∷ hs) (heap_items c.push.new.self) c.in_ok-push.ensures.permutation (apart_fresh h hs c.args.self.now c.self.view_is c.self.invariant.1 c.requires)
    ∙ ap (insert h.cast) c.self.view_is
