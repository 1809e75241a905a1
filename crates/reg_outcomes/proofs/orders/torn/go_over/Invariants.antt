use Rattle.reg_outcomes.specs.Forced.{AreForced}
use Rattle.reg_outcomes.proofs.orders.torn.go_over.Given as goal

abbrev pub invariant-loop-entry : goal.invariant-loop-entry
invariant-loop-entry g l = AreForced l.finder l.before
