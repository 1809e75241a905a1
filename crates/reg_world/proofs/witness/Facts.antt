-- What the proof of a serial order uses of a run, by places in the order.
use Rattle.std.specs.Prelude.{false, ◌≡◌, ℕ, ◌<◌, ◌≤◌, take, length, replicate, Some, None, slice_get}
use Rattle.reg_base.specs.declared.stamps.Delivered.{Delivered}
use Rattle.reg_base.specs.Order.{Below, In}
use Rattle.reg_base.specs.Memory.{Memory, updates, answer_of, memory_after}
use Rattle.reg_process.specs.Process.{ops_of}
use Rattle.reg_world.proofs.run.Traced.{Trace, Called, Answered, casts_of}

-- the call of this number at p made this cast
abbrev pub IsCastAt : Trace → ℕ → ℕ → Delivered → Type 0
IsCastAt w p number c =
    (d : Called) × (slice_get (w.pasts p).calls number ≡ Some d) × (d.cast ≡ Some c.stamp) × (d.op ≡ c.op)

-- it is delivered nowhere
abbrev pub IsWaiting : Trace → Delivered → Type 0
IsWaiting w c = (k : ℕ) → slice_get (casts_of w.order) k ≡ Some c → ⊥

-- the memory after the first k casts of the order
abbrev pub memory_at : ℕ → Trace → ℕ → Memory
memory_at registers w k = memory_after (ops_of (take k (casts_of w.order))) (replicate registers 0)

pub record RunFacts (n registers : ℕ) (w : Trace) : Type 0 where
  pub rising : (i j : ℕ) (a b : Delivered) → slice_get (casts_of w.order) i ≡ Some a
      → slice_get (casts_of w.order) j ≡ Some b → i < j → Below a.stamp b.stamp
  pub delivered : (k : ℕ) (c : Delivered) → slice_get (casts_of w.order) k ≡ Some c
      → (c.stamp.process < n) × ((number : ℕ) × IsCastAt w c.stamp.process number c)
  pub waiting : (p number : ℕ) (c : Delivered) → p < n → IsCastAt w p number c → IsWaiting w c → (k : ℕ) (o : Delivered)
      → slice_get (casts_of w.order) k ≡ Some o → Below o.stamp c.stamp
  pub own_casts : (p i j : ℕ) (a b : Delivered) → p < n → IsCastAt w p i a → IsCastAt w p j b → i < j
      → (a.stamp.process ≡ p) × (b.stamp.process ≡ p) × Below a.stamp b.stamp
  -- an answer from a copy: after the own casts called before it, and before those called after it
  pub earlier : (p : ℕ) (a : Answered) (d : Called) (j : ℕ) (c : Delivered) → p < n → In a (w.pasts p).answers
      → slice_get (w.pasts p).calls a.number ≡ Some d → d.cast ≡ None → IsCastAt w p j c → j < a.number
      → (k : ℕ) × (k < a.reply.place) × (slice_get (casts_of w.order) k ≡ Some c)
  pub later : (p : ℕ) (a : Answered) (d : Called) (j : ℕ) (c : Delivered) (k : ℕ) → p < n → In a (w.pasts p).answers
      → slice_get (w.pasts p).calls a.number ≡ Some d → d.cast ≡ None → IsCastAt w p j c → a.number < j
      → slice_get (casts_of w.order) k ≡ Some c → a.reply.place ≤ k
  -- every answer is the memory's at its place
  pub answered : (p : ℕ) (a : Answered) (d : Called) → p < n → In a (w.pasts p).answers
      → slice_get (w.pasts p).calls a.number ≡ Some d
      → (a.reply.place ≤ length (casts_of w.order))
      × (a.reply.answer ≡ answer_of d.op (memory_at registers w a.reply.place))
  -- that to a delivered cast is the memory's before it, that to one delivered nowhere every memory's
  pub own_answer : (p : ℕ) (a : Answered) (c : Delivered) (k : ℕ) → p < n → In a (w.pasts p).answers
      → IsCastAt w p a.number c → slice_get (casts_of w.order) k ≡ Some c
      → a.reply.answer ≡ answer_of c.op (memory_at registers w k)
  pub blind : (p : ℕ) (a : Answered) (c : Delivered) → p < n → In a (w.pasts p).answers → IsCastAt w p a.number c
      → IsWaiting w c → (m : Memory) → a.reply.answer ≡ answer_of c.op m
  -- what made no cast changes nothing
  pub copied : (p number : ℕ) (d : Called) → slice_get (w.pasts p).calls number ≡ Some d → d.cast ≡ None
      → updates d.op ≡ false
