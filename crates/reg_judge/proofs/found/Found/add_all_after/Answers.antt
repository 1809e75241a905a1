use Rattle.std.proofs.Common.{arith}
use Rattle.reg_judge.proofs.Keeping.{after_all, after_more, at_get, extends_twice}
use Rattle.reg_judge.proofs.found.Found.add_all_after.Goals as goal

pub loop-mover-preserved : goal.loop-mover-preserved
loop-mover-preserved g c = record {
  extends = extends_twice c.args.self.now.stages.items c.loop-mover.self.stages.items c.add_after.new.self.stages.items c.loop-mover.invariant.extends c.in_ok-add_after.ensures.extends;
  there = after_more c.loop-mover.mover-index c.args.movers.now c.args.stage c.loop-mover.self.stages.items c.add_after.new.self.stages.items _ (at_get c.args.movers.now c.loop-mover.mover-index _ c.loop-mover-test.true) c.in_ok-add_after.ensures.extends c.in_ok-add_after.ensures.there c.loop-mover.invariant.there;
}

pub returns-clause-there : goal.returns-clause-there
returns-clause-there g c = after_all c.loop-mover.mover-index c.args.movers.now c.args.stage c.loop-mover.self.stages.items (let end = c.loop-mover-test.false in omega (arith, end)) c.loop-mover.invariant.there
