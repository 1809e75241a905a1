use Rattle.std.proofs.Common.{ℕ, ◌<◌}
use Rattle.reg_checkers.specs.History.{IsAt}
use Rattle.reg_node.specs.LogTexts.{Journal}
use Rattle.reg_verify.specs.Gathers.{Agree}
use Rattle.reg_verify.proofs.gathering.check_heads.Given as goal

-- the logs so far agree with the first one
abbrev pub invariant-loop-at : goal.invariant-loop-at
invariant-loop-at g l =
    (first : Journal) → IsAt l.logs 0 first → (k : ℕ) (j : Journal) → k < l.at → IsAt l.logs k j → Agree first j
