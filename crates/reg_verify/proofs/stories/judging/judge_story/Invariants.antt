use Rattle.std.proofs.Common.{ℕ, ◌<◌}
use Rattle.reg_verify.specs.Stories.{GoesOn}
use Rattle.reg_verify.proofs.stories.judging.judge_story.Given as goal

-- the reports so far go on
abbrev pub invariant-loop-place : goal.invariant-loop-place
invariant-loop-place g l = (k : ℕ) → k < l.place → GoesOn l.reports k
