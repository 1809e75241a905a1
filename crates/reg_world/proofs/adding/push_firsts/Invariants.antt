use Rattle.reg_world.proofs.code.Entering.{IsSoFar}
use Rattle.reg_world.proofs.adding.push_firsts.Given as goal

abbrev pub invariant-loop-cast : goal.invariant-loop-cast
invariant-loop-cast g l =
    IsSoFar l.at l.last l.delivered l.initial.order.items l.initial.callers.items l.callers.items l.cast-index l.order
