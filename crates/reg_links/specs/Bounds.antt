-- The bounds of outboxes between their calls. They carry a proof: no promise speaks of them.
use Rattle.std.specs.Prelude.{◌≤◌, ℕ, ◌≡◌, List, [], ◌∷◌, min, slice_index}
use Rattle.reg_base.specs.declared.limits.TheConstants.{FRAME_NUMBERS}
use Rattle.reg_links.specs.Link.{Unacknowledged, next_of}
use Rattle.reg_links.specs.Sending.{Sending, next_all}

pub record InRange (o : Unacknowledged) : Type 0 where
  pub next : next_of o ≤ FRAME_NUMBERS

-- the least of the counts, or n where that is less
abbrev pub least_from : ℕ → List ℕ → ℕ
least_from n [] = n
least_from n (c ∷ cs) = min c (least_from n cs)

-- no process has acknowledged more than was queued, and just the bodies are kept that some process has not acknowledged
pub record InStep (s : Sending) : Type 0 where
  pub next : next_all s ≤ FRAME_NUMBERS
  pub counts : (r : ℕ) → slice_index s.counts r ≤ next_all s
  pub first : s.first ≡ least_from (next_all s) s.counts
