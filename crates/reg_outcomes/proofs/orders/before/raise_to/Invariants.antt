use Rattle.reg_outcomes.specs.Forced.{AreRaised}
use Rattle.reg_outcomes.proofs.orders.before.raise_to.Given as goal

abbrev pub invariant-loop-place : goal.invariant-loop-place
invariant-loop-place l = AreRaised l.others l.initial.counts l.counts
