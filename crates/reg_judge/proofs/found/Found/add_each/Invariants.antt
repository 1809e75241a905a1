use Rattle.reg_judge.specs.Stages.{HasEachTo}
use Rattle.reg_judge.proofs.found.Found.add_each.Given as goal

abbrev pub invariant-loop-stage : goal.invariant-loop-stage
invariant-loop-stage g l = HasEachTo l.stage-index l.self.stages.items l.stages
