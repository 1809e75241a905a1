use Rattle.reg_outcomes.specs.Searching.{IsSearch, left_of}
use Rattle.reg_outcomes.proofs.orders.finding.walk_on.Given as goal

-- what was tried and what failed leads to no order
abbrev pub invariant-turns : goal.invariant-turns
invariant-turns g l = IsSearch l.finder l.walk l.failed

-- what can be tried still
abbrev pub decreases-turns : goal.decreases-turns
decreases-turns g l = left_of l.finder l.walk
