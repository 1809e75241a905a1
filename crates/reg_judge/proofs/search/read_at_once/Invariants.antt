use Rattle.reg_judge.specs.Stages.{Reads}
use Rattle.reg_judge.proofs.search.read_at_once.Given as goal

abbrev pub invariant-loop-place : goal.invariant-loop-place
invariant-loop-place g l = Reads l.id.process l.initial.layer.items l.layer.items
