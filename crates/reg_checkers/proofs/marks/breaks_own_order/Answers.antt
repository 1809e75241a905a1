use Rattle.std.proofs.Common.{◌<◌, ◌+◌, ℕ, List, length, get_or, subst, sym, arith}
use Rattle.std.proofs.lemmas.Option.{slice_get-get_or}
use Rattle.reg_base.specs.declared.memory.OpId.{OpId}
use Rattle.reg_checkers.proofs.OwnOrder.{IsHigh, own_broken, keeps_more, high_more, keeps_all, high_none}
use Rattle.reg_checkers.proofs.marks.breaks_own_order.Goals as goal

no_id : OpId
no_id = record { process = 0; number = 0 }

pub loop-k-init : goal.loop-k-init
loop-k-init g c = record {
  high = high_none c.args.ids.now c.in_ok-next.next.items 256 (c.in_ok-next.ensures.items_if_clones_equal (λ y h. h));
  keeps = λ i j a b lt. absurd (omega arith);
  room = c.in_ok-next.ensures.len;
}

pub returns-then-not-passes : goal.returns-then-not-passes
unfolding no_id
returns-then-not-passes g c =
    let here = slice_get-get_or c.args.ids.now c.loop-k.k no_id c.loop-k-test.true in
    own_broken c.args.ids.now c.loop-k.k c.loop-k.next.items (get_or c.args.ids.now c.loop-k.k no_id) c.requires c.loop-k.invariant.high here c.if-not-passes.ensures.verdict

pub loop-k-preserved : goal.loop-k-preserved
unfolding no_id
loop-k-preserved g c =
    let ids = c.args.ids.now in
    let k = c.loop-k.k in
    let id = get_or ids k no_id in
    let here = slice_get-get_or ids k no_id c.loop-k-test.true in
    let says = c.if-not-passes.ensures.verdict in
    let before = c.loop-k.invariant in
    let inside : id.process < length c.loop-k.next.items = omega (arith, c.if-not-passes.ensures.small, before.room, c.loop-k.next.ok.0) in record {
      high = subst (λ (xs : List ℕ). IsHigh ids (k + 1) xs) (sym says.1) (high_more ids k c.loop-k.next.items id inside before.high here says.0);
      keeps = keeps_more ids k c.loop-k.next.items id before.high here says.0 before.keeps;
      room = c.if-not-passes.ensures.len;
    }

pub returns : goal.returns
returns g c = keeps_all c.args.ids.now c.loop-k.k c.loop-k-test.false c.loop-k.invariant.keeps
