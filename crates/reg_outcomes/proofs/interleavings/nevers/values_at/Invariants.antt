use Rattle.reg_outcomes.specs.Nevers.{tells}
use Rattle.reg_outcomes.proofs.Combining.{AreFirstValues}
use Rattle.reg_outcomes.proofs.interleavings.nevers.values_at.Given as goal

-- the values of the outcomes so far
abbrev pub invariant-loop-outcome : goal.invariant-loop-outcome
invariant-loop-outcome g l = AreFirstValues (tells l.outcomes) l.place l.outcome-index l.values.items
