use Rattle.std.proofs.Common.{◌≡◌, ◌<◌, ℕ, length}
use Rattle.reg_records.specs.RestParts.{link_in}
use Rattle.reg_records.proofs.resting.pending_link.Given as goal

-- nothing is pending for the processes before
abbrev pub invariant-loop-to : goal.invariant-loop-to
invariant-loop-to g l =
    (k : ℕ) → k < l.to → (k ≡ l.process → ⊥) → length (link_in g.F.FrontEnd.start l.world l.process k).pending ≡ 0
