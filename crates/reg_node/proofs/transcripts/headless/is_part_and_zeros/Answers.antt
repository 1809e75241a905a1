use Rattle.std.proofs.lemmas.List.{nil_from_length}
use Rattle.reg_node.proofs.Parted.{ended, further, parted}
use Rattle.reg_node.proofs.transcripts.headless.is_part_and_zeros.Goals as goal

pub loop-first-preserved : goal.loop-first-preserved
loop-first-preserved c =
    further c.in-Some.first.now c.in-Some-split_first.wanted.now c.args.bytes.now c.args.text.now c.loop-first.rest.now c.loop-first.left.now c.in-Some.behind.now c.in-Some-split_first.after.now c.in-Some.ensures.cases.0 c.in-Some-split_first.ensures.cases.0 c.if-first-wanted.false c.loop-first.invariant

pub returns-in_default-split_first : goal.returns-in_default-split_first
returns-in_default-split_first c =
    ended c.args.bytes.now c.args.text.now c.loop-first.rest.now c.loop-first.left.now c.are_zeros.result c.are_zeros.ensures c.loop-first.invariant (nil_from_length c.loop-first.left.now c.in_default-split_first.ensures.cases)

pub returns-then-first-wanted : goal.returns-then-first-wanted
returns-then-first-wanted c =
    parted c.args.bytes.now c.args.text.now c.loop-first.rest.now c.loop-first.left.now c.are_zeros-then-first-wanted.result c.are_zeros-then-first-wanted.ensures c.loop-first.invariant c.in-Some.first.now c.in-Some-split_first.wanted.now c.in-Some.behind.now c.in-Some-split_first.after.now c.in-Some.ensures.cases.0 c.in-Some-split_first.ensures.cases.0 c.if-first-wanted.true
