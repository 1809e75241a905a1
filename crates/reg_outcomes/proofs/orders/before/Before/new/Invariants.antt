use Rattle.reg_outcomes.specs.Forced.{AreNone}
use Rattle.reg_outcomes.proofs.orders.before.Before.new.Given as goal

abbrev pub invariant-loop-process : goal.invariant-loop-process
invariant-loop-process g l = AreNone l.counts.items
