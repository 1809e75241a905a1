use Rattle.std.proofs.Common.{arith}
use Rattle.reg_judge.proofs.Keeping.{at_get, each_all, each_more}
use Rattle.reg_judge.proofs.found.Found.add_each.Goals as goal

pub loop-stage-preserved : goal.loop-stage-preserved
loop-stage-preserved g c =
    each_more c.loop-stage.stage-index c.args.stages.now c.loop-stage.self.stages.items c.add.new.self.stages.items _ (at_get c.args.stages.now c.loop-stage.stage-index _ c.loop-stage-test.true) c.in_ok-add.ensures.extends c.in_ok-add.ensures.there c.loop-stage.invariant

pub returns : goal.returns
returns g c = each_all c.loop-stage.stage-index c.args.stages.now c.loop-stage.self.stages.items (let end = c.loop-stage-test.false in omega (arith, end)) c.loop-stage.invariant
