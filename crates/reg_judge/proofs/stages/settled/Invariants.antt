use Rattle.std.specs.Int.{bit_at}
use Rattle.reg_judge.specs.Stages.{Settles}
use Rattle.reg_judge.proofs.stages.settled.Given as goal

abbrev pub invariant-loop-mover : goal.invariant-loop-mover
invariant-loop-mover l = Settles l.movers (bit_at l.placed) l.all
