use Rattle.std.proofs.Common.{◌≡◌, ◌<◌, ℕ, false}
use Rattle.reg_verify.specs.StoryParts.{begins_behind}
use Rattle.reg_verify.proofs.stories.reading.end_of_report.Given as goal

-- no report begins behind the places so far
abbrev pub invariant-loop-place : goal.invariant-loop-place
invariant-loop-place l = (i : ℕ) → i < l.place → begins_behind l.text i ≡ false
