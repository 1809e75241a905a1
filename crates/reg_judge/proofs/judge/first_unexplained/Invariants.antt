use Rattle.std.proofs.Common.{◌-◌}
use Rattle.reg_judge.specs.Judging.{AreBounds}
use Rattle.reg_judge.proofs.judge.first_unexplained.Given as goal

abbrev pub invariant-narrow : goal.invariant-narrow
invariant-narrow g l = AreBounds l.history.shape.registers l.history.entries l.bounds

abbrev pub decreases-narrow : goal.decreases-narrow
decreases-narrow g l = l.bounds.bad - l.bounds.good
