use Rattle.std.proofs.Common.{get_or, arith}
use Rattle.std.proofs.lemmas.Option.{slice_get-get_or}
use Rattle.reg_base.specs.declared.memory.OpId.{OpId}
use Rattle.reg_checkers.specs.Table.{IsMarkedToo}
use Rattle.reg_checkers.proofs.Marking.{marked_more, distinct_more, marked_none, marked_all, distinct_all, twice_here}
use Rattle.reg_checkers.proofs.marks.has_twice.Goals as goal

no_id : OpId
no_id = record { process = 0; number = 0 }

pub loop-k-init : goal.loop-k-init
loop-k-init g c = record {
  known = c.requires.known;
  marked = marked_none c.args.rows.now.items c.args.ids.now c.requires.unmarked;
  distinct = λ i j id lt. absurd (omega arith);
}

pub mark-requires : goal.mark-requires
unfolding no_id
mark-requires g c =
    let here = slice_get-get_or c.args.ids.now c.loop-k.k no_id c.loop-k-test.true in
    c.loop-k.invariant.known c.loop-k.k (get_or c.args.ids.now c.loop-k.k no_id) here

pub returns-then-not-mark : goal.returns-then-not-mark
unfolding no_id
returns-then-not-mark g c =
    let here = slice_get-get_or c.args.ids.now c.loop-k.k no_id c.loop-k-test.true in
    twice_here c.loop-k.rows.items c.args.ids.now c.loop-k.k (get_or c.args.ids.now c.loop-k.k no_id) here c.loop-k.invariant.marked c.if-not-mark.ensures

pub loop-k-preserved : goal.loop-k-preserved
unfolding no_id
loop-k-preserved g c =
    let ids = c.args.ids.now in
    let k = c.loop-k.k in
    let id = get_or ids k no_id in
    let here = slice_get-get_or ids k no_id c.loop-k-test.true in
    let more : IsMarkedToo c.loop-k.rows.items c.mark.new.rows.items id = c.if-not-mark.ensures in
    let before = c.loop-k.invariant in
    record {
      known = λ j x at. more.known x (before.known j x at);
      marked = marked_more c.loop-k.rows.items c.mark.new.rows.items ids k id here before.marked more;
      distinct = distinct_more c.loop-k.rows.items ids k id here before.marked more.before before.distinct;
    }

pub returns : goal.returns
returns g c = (distinct_all c.args.ids.now c.loop-k.k c.loop-k-test.false c.loop-k.invariant.distinct, marked_all c.loop-k.rows.items c.args.ids.now c.loop-k.k c.loop-k-test.false c.loop-k.invariant.marked)
