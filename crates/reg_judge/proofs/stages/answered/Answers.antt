use Rattle.std.proofs.Common.{arith}
use Rattle.reg_judge.proofs.Keeping.{at_get, keeps_all, keeps_more}
use Rattle.reg_judge.proofs.stages.answered.Goals as goal

pub loop-stage-preserved : goal.loop-stage-preserved
loop-stage-preserved g c =
    keeps_more c.loop-stage.stage-index c.args.process c.args.stages.now c.loop-stage.kept.items c.keep.new.kept.items _ (at_get c.args.stages.now c.loop-stage.stage-index _ c.loop-stage-test.true) c.in_ok-keep.ensures.extends c.in_ok-keep.ensures.kept c.loop-stage.invariant

pub returns : goal.returns
returns g c = keeps_all c.loop-stage.stage-index c.args.process c.args.stages.now c.loop-stage.kept.items (let end = c.loop-stage-test.false in omega (arith, end)) c.loop-stage.invariant
