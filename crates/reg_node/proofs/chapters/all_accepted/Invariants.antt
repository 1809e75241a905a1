use Rattle.std.proofs.Common.{◌≡◌, ◌≢◌, ◌<◌, ℕ, length, slice_get, Some}
use Rattle.reg_process.specs.Process.{peer_at}
use Rattle.reg_node.proofs.chapters.all_accepted.Given as goal

-- those so far
abbrev pub invariant-loop-other : goal.invariant-loop-other
invariant-loop-other g l =
    (length l.counts.items ≡ l.other)
    × ((q : ℕ) → q < l.other → q ≢ l.process.state.me → slice_get l.counts.items q ≡ Some (peer_at l.process.state q).expected)
    × (l.process.state.me < l.other → slice_get l.counts.items l.process.state.me ≡ Some 0)
