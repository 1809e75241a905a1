-- The sending ends of all links of one process, which queue the same bodies.
use Rattle.std.specs.Prelude.{ℕ, ◌≡◌, ◌+◌, ◌-◌, ◌<◌, nat_eq, List, [], length, drop, Option, Some, None, if◌then◌else◌}
use Rattle.std.specs.Prelude.{slice_index}
use Rattle.reg_frames.specs.declared.bodies.Body.{Body}
use Rattle.reg_links.specs.Link.{Unacknowledged, with_queued, acknowledged}
use Rattle.reg_links.specs.declared.outboxes.LinkFault.{LinkFault}
use Rattle.reg_links.specs.declared.outboxes.LinkFault.TheVariants.{NumberFull}
use Rattle.reg_base.specs.declared.limits.TheConstants.{FRAME_NUMBERS}

-- the number of the first body that is kept, these bodies, and how many each process has acknowledged
pub record Sending : Type 0 where
  pub first : ℕ
  pub bodies : List Body
  pub counts : List ℕ

-- the number of the next body
abbrev pub next_all : Sending → ℕ
next_all s = s.first + length s.bodies

-- the bodies that a process hasn't acknowledged, where it has acknowledged the given number
abbrev pub link_at : Sending → ℕ → Unacknowledged
link_at s count = record { first = count; pending = drop (count - s.first) s.bodies }

-- the link to one process
abbrev pub link_to : Sending → ℕ → Unacknowledged
link_to s r = link_at s (slice_index s.counts r)

abbrev pub full_fault : Sending → Option LinkFault
full_fault s = if nat_eq (next_all s) FRAME_NUMBERS then Some NumberFull else None

-- the links to all other processes queued the body under one number, and the own one has nothing pending
pub record IsQueued (old : Sending) (me : ℕ) (body : Body) (number : ℕ) (new : Sending) : Type 0 where
  pub numbered : number ≡ next_all old
  pub next : next_all new ≡ number + 1
  pub links : (r : ℕ) → r < length old.counts → (r ≡ me → ⊥) → link_to new r ≡ with_queued (link_to old r) body
  pub own : link_to new me ≡ record { first = number + 1; pending = [] }

-- one process has acknowledged the given number of bodies, and the others as many as before
pub record IsCounted (old : Sending) (from : ℕ) (count : ℕ) (new : Sending) : Type 0 where
  pub next : next_all new ≡ next_all old
  pub link : link_to new from ≡ acknowledged (link_to old from) count
  pub others : (r : ℕ) → r < length old.counts → (r ≡ from → ⊥) → link_to new r ≡ link_to old r
