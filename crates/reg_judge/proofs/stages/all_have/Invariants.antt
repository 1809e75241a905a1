use Rattle.std.proofs.Common.{ℕ, ◌≡◌, ◌<◌}
use Rattle.std.specs.Int.{bit_at}
use Rattle.reg_checkers.specs.History.{IsAt}
use Rattle.reg_judge.specs.declared.stages.Stage.{Stage}
use Rattle.reg_judge.proofs.stages.all_have.Given as goal

abbrev pub invariant-loop-stage : goal.invariant-loop-stage
invariant-loop-stage l = (j : ℕ) (s : Stage) → j < l.stage-index → IsAt l.stages j s → bit_at s.placed l.process ≡ 1
