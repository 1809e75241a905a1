use Rattle.reg_judge.specs.Stages.{KeepsTo}
use Rattle.reg_judge.proofs.stages.answered.Given as goal

abbrev pub invariant-loop-stage : goal.invariant-loop-stage
invariant-loop-stage g l = KeepsTo l.stage-index l.process l.stages l.kept.items
