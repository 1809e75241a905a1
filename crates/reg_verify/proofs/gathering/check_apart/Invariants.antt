use Rattle.std.proofs.Common.{ℕ, ◌<◌, ◌≢◌}
use Rattle.reg_checkers.specs.History.{IsAt}
use Rattle.reg_node.specs.LogTexts.{Journal}
use Rattle.reg_verify.proofs.gathering.check_apart.Given as goal

-- no two logs so far are of one process
abbrev pub invariant-loop-at : goal.invariant-loop-at
invariant-loop-at g l =
    (i k : ℕ) (a b : Journal) → k < l.at → i < k → IsAt l.logs i a → IsAt l.logs k b → a.id.process ≢ b.id.process
