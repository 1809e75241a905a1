-- The links to all processes, and the frames put on them. They carry a proof: no promise speaks of them.
use Rattle.std.specs.Prelude.{ℕ, suc, ◌≡◌, ◌<◌, ◌≤◌, ◌+◌, ◌==◌, cond, List, [], ◌∷◌, ◌++◌, length, map, take, Option}
use Rattle.std.specs.Prelude.{Some, None, slice_index_or}
use Rattle.std.specs.List.{range_with_len}
use Rattle.reg_frames.specs.declared.bodies.Body.{Body}
use Rattle.reg_frames.specs.declared.bodies.Frame.{Frame}
use Rattle.reg_frames.specs.declared.bodies.Frame.TheVariants.{Numbered, Got}
use Rattle.reg_process.specs.Sending.{owed}
use Rattle.reg_process.specs.Process.{numbered_from}
use Rattle.reg_base.specs.declared.limits.TheConstants.{FRAME_NUMBERS, MOST_RESENT}
use Rattle.reg_links.specs.Link.{Unacknowledged, next_of, with_queued}
use Rattle.reg_links.specs.Sending.{Sending, link_to}
use Rattle.reg_process.specs.Parts.{nothing}

-- the link to a process; the own place stays unused
abbrev pub out_to : ℕ → Sending → ℕ → Unacknowledged
out_to me s r = cond (r == me) nothing (link_to s r)

-- the links to all processes
unfoldable pub outs_of : ℕ → Sending → List Unacknowledged
outs_of me s = map (out_to me s) (range_with_len 0 (length s.counts))

abbrev pub body_frames : ℕ → Body → ℕ → Unacknowledged → List Frame
body_frames me body r out = cond (r == me) [] (Numbered (next_of out) body ∷ [])

-- the number is the next one on the link to every other process
abbrev pub IsNumbered : ℕ → ℕ → Sending → Type 0
IsNumbered me number s = (r : ℕ) → r < length s.counts → (r ≡ me → ⊥) → number ≡ next_of (link_to s r)

-- the frames of an event that queues a body on all outboxes
abbrev pub all_frames : Option (ℕ × ℕ) → ℕ → Body → List Unacknowledged → ℕ → List Frame
all_frames got me body outs r = owed got r ++ body_frames me body r (slice_index_or outs r nothing)

abbrev pub queued_at : ℕ → Body → ℕ → Unacknowledged → Unacknowledged
queued_at me body r out = cond (r == me) out (with_queued out body)

abbrev pub queue_outs : ℕ → ℕ → Body → List Unacknowledged → List Unacknowledged
queue_outs r me body [] = []
queue_outs r me body (out ∷ outs) = queued_at me body r out ∷ queue_outs (suc r) me body outs

-- no outbox took more than one body
abbrev pub IsGrown : List Unacknowledged → List Unacknowledged → Type 0
IsGrown old new = (i : ℕ) → next_of (slice_index_or new i nothing) ≤ next_of (slice_index_or old i nothing) + 1

-- what a tick puts again for one process
abbrev pub again_at : ℕ → ℕ → Unacknowledged → List Frame
again_at me r out = cond (r == me) [] (numbered_from out.first (take MOST_RESENT out.pending))

abbrev pub again_frames : ℕ → List Unacknowledged → ℕ → List Frame
again_frames me outs r = again_at me r (slice_index_or outs r nothing)

-- no outbox has used up its numbers
abbrev pub HasNumbers : List Unacknowledged → Type 0
HasNumbers outs = (i : ℕ) → next_of (slice_index_or outs i nothing) < FRAME_NUMBERS

-- how many bodies are not acknowledged
abbrev pub pending_in : List Unacknowledged → ℕ
pending_in [] = 0
pending_in (out ∷ outs) = length out.pending + pending_in outs
