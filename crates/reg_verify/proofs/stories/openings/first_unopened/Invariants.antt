use Rattle.reg_verify.specs.Stories.{OpensUpTo}
use Rattle.reg_verify.proofs.stories.openings.first_unopened.Given as goal

-- the writes so far are the first operations
abbrev pub invariant-loop-place : goal.invariant-loop-place
invariant-loop-place g l = OpensUpTo l.place l.writes l.report
