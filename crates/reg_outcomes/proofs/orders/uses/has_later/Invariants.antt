use Rattle.reg_outcomes.specs.Losing.{HasNoLater}
use Rattle.reg_outcomes.proofs.orders.uses.has_later.Given as goal

-- no process so far has one
abbrev pub invariant-loop-process : goal.invariant-loop-process
invariant-loop-process g l = HasNoLater l.lasts l.next l.process l.value
