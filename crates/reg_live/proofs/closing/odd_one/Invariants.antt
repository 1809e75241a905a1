use Rattle.std.proofs.Common.{◌≡◌, ◌==◌, ◌<◌, ℕ, count_by}
use Rattle.reg_live.proofs.closing.odd_one.Given as goal

abbrev pub invariant-loop-process : goal.invariant-loop-process
invariant-loop-process g l = (p : ℕ) → p < l.process → count_by (λ h. h.me == p) l.passes ≡ 1
