use Rattle.reg_outcomes.proofs.Pointing.{IsPointing}
use Rattle.reg_outcomes.proofs.orders.finding.points_of.Given as goal

-- the points of the operations so far, and the latest of their calls
abbrev pub invariant-loop-id : goal.invariant-loop-id
invariant-loop-id g l = IsPointing l.finder.entries l.ids l.id-index l.at l.points.items
