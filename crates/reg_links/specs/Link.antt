-- The two ends of a numbered link over a wire that loses, repeats and reorders.
use Rattle.std.specs.Prelude.{ℕ, ◌+◌, ◌-◌, ◌++◌, nat_eq, List, [], ◌∷◌, length, drop, max, Option, Some, None}
use Rattle.std.specs.Prelude.{if◌then◌else◌}
use Rattle.reg_frames.specs.declared.bodies.Body.{Body}
use Rattle.reg_links.specs.declared.outboxes.LinkFault.{LinkFault}
use Rattle.reg_links.specs.declared.outboxes.LinkFault.TheVariants.{NumberFull, OutOfMemory}
use Rattle.reg_base.specs.declared.limits.TheConstants.{FRAME_NUMBERS}

-- the number of the first body that was not acknowledged, and all bodies that were not
pub record Unacknowledged : Type 0 where
  pub first : ℕ
  pub pending : List Body

-- the number of the next body
abbrev pub next_of : Unacknowledged → ℕ
next_of o = o.first + length o.pending

abbrev pub with_queued : Unacknowledged → Body → Unacknowledged
with_queued o b = record o { pending = o.pending ++ b ∷ [] }

-- all bodies below the count were accepted; a count not above an earlier one changes nothing
abbrev pub acknowledged : Unacknowledged → ℕ → Unacknowledged
acknowledged o n = record { first = max o.first n; pending = drop (n - o.first) o.pending }

abbrev pub queue_fault : Unacknowledged → Option LinkFault
queue_fault o = if nat_eq (next_of o) FRAME_NUMBERS then Some NumberFull else None

-- the fault that a refusal tells of; `OutOfMemory` is none
abbrev pub refusal_of : LinkFault → Option LinkFault
refusal_of NumberFull = Some NumberFull
refusal_of OutOfMemory = None
