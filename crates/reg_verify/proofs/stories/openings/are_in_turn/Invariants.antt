use Rattle.std.proofs.Common.{◌≡◌, ℕ, ◌<◌}
use Rattle.reg_base.specs.declared.memory.OpId.{OpId}
use Rattle.reg_checkers.specs.History.{IsAt}
use Rattle.reg_verify.specs.Stories.{opener}
use Rattle.reg_verify.proofs.stories.openings.are_in_turn.Given as goal

-- the ids so far are those of the first operations
abbrev pub invariant-loop-place : goal.invariant-loop-place
invariant-loop-place l = (k : ℕ) (id : OpId) → k < l.place → IsAt l.order k id → id ≡ opener k
