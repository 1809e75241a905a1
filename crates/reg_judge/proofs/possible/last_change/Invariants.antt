use Rattle.reg_judge.specs.Candidates.{IsSince}
use Rattle.reg_judge.proofs.possible.last_change.Given as goal

abbrev pub invariant-loop-entry : goal.invariant-loop-entry
invariant-loop-entry g l = IsSince l.entries l.event l.since
