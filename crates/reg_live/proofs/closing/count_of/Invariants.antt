use Rattle.std.proofs.Common.{◌≡◌, ◌==◌, count_by, take}
use Rattle.reg_live.proofs.closing.count_of.Given as goal

abbrev pub invariant-loop-pass : goal.invariant-loop-pass
invariant-loop-pass g l = l.count ≡ count_by (λ h. h.me == l.process) (take l.pass-index l.passes)
