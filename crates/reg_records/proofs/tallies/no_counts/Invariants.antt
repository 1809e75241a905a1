use Rattle.std.proofs.Common.{◌≡◌, ℕ, get_or, vec_len}
use Rattle.reg_records.proofs.tallies.no_counts.Given as goal

abbrev pub invariant-loop-p : goal.invariant-loop-p
invariant-loop-p g l = ((p : ℕ) → get_or l.counts.items p 0 ≡ 0) × (vec_len l.counts ≡ l._p)
