use Rattle.std.proofs.Common.{◌≡◌, ◌<◌, ℕ, map, None}
use Rattle.reg_records.specs.Records.{entry_of, mentions}
use Rattle.reg_records.proofs.tallies.is_left.Given as goal

abbrev pub invariant-loop-process : goal.invariant-loop-process
invariant-loop-process g l =
    (p : ℕ) → p < l.process → entry_of (map (λ v. v.items) l.logs) p (mentions p l.order) ≡ None
