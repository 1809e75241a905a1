use Rattle.std.proofs.Common.{arith, refl}
use Rattle.reg_judge.proofs.Keeping.{at_get}
use Rattle.reg_judge.proofs.Needs.{movers_all, movers_more, movers_none}
use Rattle.reg_judge.proofs.calls.movers_on.Goals as goal

pub loop-process-init : goal.loop-process-init
loop-process-init g c = movers_none _ c.args.register c.args.place c.args.running.now c.new-movers.result.items refl c.new-movers.ensures.items

pub loop-process-preserved : goal.loop-process-preserved
loop-process-preserved g c = movers_more c.loop-process.process c.args.register c.args.place c.args.running.now c.loop-process.movers.items c.add_mover.new.movers.items _ (at_get c.args.running.now c.loop-process.process _ (let lt = c.loop-process-test.true in omega (arith, lt))) c.in_ok-add_mover.ensures c.loop-process.invariant

pub returns : goal.returns
returns g c = movers_all c.loop-process.process c.args.register c.args.place c.args.running.now c.loop-process.movers.items (let end = c.loop-process-test.false in omega (arith, end)) c.loop-process.invariant
