use Rattle.reg_records.specs.RestParts.{Ticked}
use Rattle.reg_records.proofs.resting.tick_and_pass.Given as goal

abbrev pub invariant-loop-to : goal.invariant-loop-to
invariant-loop-to g l = Ticked g.F.FrontEnd.start l.fn.world l.process l.first l.to l.world
