use Rattle.reg_judge.specs.Candidates.{ArePossibleTo}
use Rattle.reg_judge.proofs.possible.possible_of.Given as goal

abbrev pub invariant-loop-answer : goal.invariant-loop-answer
invariant-loop-answer g l = ArePossibleTo l.answer-index 1 l.history.entries l.place l.candidates l.possible.items
