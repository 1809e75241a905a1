use Rattle.std.proofs.Common.{arith}
use Rattle.reg_outcomes.proofs.Raising.{raised_at}
use Rattle.reg_outcomes.proofs.orders.before.raise_to.Goals as goal

pub loop-place-preserved : goal.loop-place-preserved
loop-place-preserved c = raised_at c.args.others.now c.args.counts.now c.loop-place.counts c.loop-place.place c.max.result c.max.ensures (omega (arith, c.loop-place-test.true, c.min-place-end.ensures, c.loop-place.auto.counts)) (omega (arith, c.loop-place-test.true, c.min-place-end.ensures)) c.loop-place.invariant
