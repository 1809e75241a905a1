use Rattle.reg_outcomes.specs.Forced.{AreCalledTo}
use Rattle.reg_outcomes.proofs.orders.sources.makers_of.Given as goal

-- the first entries are told of
abbrev pub invariant-loop-place : goal.invariant-loop-place
invariant-loop-place g l = AreCalledTo l.place l.finder.entries l.makers
