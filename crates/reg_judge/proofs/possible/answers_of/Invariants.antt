use Rattle.reg_judge.specs.Candidates.{AreAnswersTo}
use Rattle.reg_judge.proofs.possible.answers_of.Given as goal

abbrev pub invariant-loop-value : goal.invariant-loop-value
invariant-loop-value g l = AreAnswersTo l.value-index l.values l.answers.items
