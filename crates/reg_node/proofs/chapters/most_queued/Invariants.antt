use Rattle.std.proofs.Common.{◌≡◌, ◌≢◌, ◌⊎◌, ◌<◌, ◌≤◌, ℕ}
use Rattle.reg_process.specs.Process.{next_of, peer_at}
use Rattle.reg_node.proofs.chapters.most_queued.Given as goal

-- the most so far
abbrev pub invariant-loop-other : goal.invariant-loop-other
invariant-loop-other g l =
    ((q : ℕ) → q < l.other → q ≢ l.process.state.me → next_of (peer_at l.process.state q) ≤ l.most)
    × ((l.most ≡ 0) ⊎ ((q : ℕ) × (l.most ≡ next_of (peer_at l.process.state q))))
