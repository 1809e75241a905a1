use Rattle.std.proofs.Common.{ℕ, ◌<◌}
use Rattle.reg_checkers.specs.Facts.{IsOutsideFact}
use Rattle.reg_checkers.proofs.points.first_outside.Given as goal

abbrev pub invariant-loop-k : goal.invariant-loop-k
invariant-loop-k l = (j : ℕ) → j < l.k → ¬ IsOutsideFact l.points l.facts j
