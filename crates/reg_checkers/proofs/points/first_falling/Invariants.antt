use Rattle.std.proofs.Common.{ℕ, ◌<◌}
use Rattle.reg_checkers.specs.Checks.{IsFalling}
use Rattle.reg_checkers.proofs.points.first_falling.Given as goal

abbrev pub invariant-loop-k : goal.invariant-loop-k
invariant-loop-k l = (j : ℕ) → j < l.k → ¬ IsFalling l.points j
