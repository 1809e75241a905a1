use Rattle.reg_judge.specs.Searching.{AreMoversTo}
use Rattle.reg_judge.proofs.calls.movers_on.Given as goal

abbrev pub invariant-loop-process : goal.invariant-loop-process
invariant-loop-process g l = AreMoversTo l.process l.running l.register l.place l.movers.items
