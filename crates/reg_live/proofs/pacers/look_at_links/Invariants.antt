use Rattle.reg_live.specs.Desks.{first_to}
use Rattle.reg_live.proofs.Looking.{LookedBelow}
use Rattle.reg_live.proofs.pacers.look_at_links.Given as goal

abbrev pub invariant-loop-other : goal.invariant-loop-other
invariant-loop-other g l = LookedBelow (first_to l.station) l.initial.beats l.beats l.other l.due
