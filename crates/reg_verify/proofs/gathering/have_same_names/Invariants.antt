use Rattle.std.proofs.Common.{◌≡◌, ℕ, ◌<◌}
use Rattle.std.specs.Prelude.{slice_get}
use Rattle.reg_verify.proofs.gathering.have_same_names.Given as goal

-- the names so far are the same
abbrev pub invariant-loop-register : goal.invariant-loop-register
invariant-loop-register g l = (k : ℕ) → k < l.register → slice_get l.a k ≡ slice_get l.b k
