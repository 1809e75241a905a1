use Rattle.reg_outcomes.specs.Forced.{AreForced}
use Rattle.reg_outcomes.proofs.orders.torn.is_torn.Given as goal

abbrev pub invariant-loop-pass : goal.invariant-loop-pass
invariant-loop-pass g l = AreForced l.finder l.before
