use Rattle.reg_judge.specs.Candidates.{AreLeftTo}
use Rattle.reg_judge.proofs.possible.values_left.Given as goal

abbrev pub invariant-loop-entry : goal.invariant-loop-entry
invariant-loop-entry g l = AreLeftTo l.entry-index l.rows l.entries l.since l.values.items
