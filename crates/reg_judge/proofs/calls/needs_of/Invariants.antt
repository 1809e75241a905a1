use Rattle.reg_judge.specs.Searching.{AreNeedsTo}
use Rattle.reg_judge.proofs.calls.needs_of.Given as goal

abbrev pub invariant-loop-place : goal.invariant-loop-place
invariant-loop-place g l = AreNeedsTo l.place l.entries l.rows l.needs
