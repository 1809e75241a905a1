-- The laws of a run.
use Rattle.std.specs.Prelude.{◌≡◌, ℕ, ◌+◌, ◌<◌, ◌≤◌, max, ◌⊎◌, slice_get, Some, None}
use Rattle.reg_base.specs.declared.limits.TheConstants.{FRAME_NUMBERS, LAST_TIME}
use Rattle.reg_base.specs.declared.stamps.Delivered.{Delivered}
use Rattle.reg_frames.specs.declared.bodies.Body.{Body}
use Rattle.reg_frames.specs.declared.bodies.Body.TheVariants.{Cast, Ack}
use Rattle.reg_frames.specs.declared.bodies.Frame.{Frame}
use Rattle.reg_frames.specs.declared.bodies.Frame.TheVariants.{Numbered, Got}
use Rattle.reg_base.specs.Order.{Below, In, Rising, IsPrefixOf}
use Rattle.reg_base.specs.Memory.{register_of}
use Rattle.reg_process.specs.Process.{State, peer_at, time_of, next_of, pending_of}
use Rattle.reg_world.specs.Nodes.{Nodes}

-- Of the deliveries of any two processes, one list is a prefix of the other.
abbrev pub DeliveriesAgree : ℕ → Nodes → Type 0
DeliveriesAgree n w =
    (p q : ℕ) → p < n → q < n
    → IsPrefixOf (w p).deliveries (w q).deliveries ⊎ IsPrefixOf (w q).deliveries (w p).deliveries

-- the deliveries of each process are in rising stamp order
abbrev pub DeliveriesRise : ℕ → Nodes → Type 0
DeliveriesRise n w = (p : ℕ) → p < n → Rising (w p).deliveries

-- p queued this cast at some time
abbrev pub IsMade : ℕ → Nodes → Delivered → Type 0
IsMade n w c =
    (c.stamp.process < n) × ((i : ℕ) × (slice_get (w c.stamp.process).queued i ≡ Some (Cast c.stamp.time c.op)))

-- A cast that q hasn't delivered in the earlier world, made then or later, stands above all casts that it has
-- delivered.
abbrev pub UndeliveredAbove : ℕ → Nodes → Nodes → Type 0
UndeliveredAbove n earlier later =
    (q : ℕ) (c d : Delivered) → q < n → IsMade n later c → (In c (earlier q).deliveries → ⊥)
    → In d (earlier q).deliveries → Below d.stamp c.stamp

-- only casts that were made are delivered
abbrev pub DeliveriesMade : ℕ → Nodes → Type 0
DeliveriesMade n w = (q : ℕ) (c : Delivered) → q < n → In c (w q).deliveries → IsMade n w c

-- when a process refuses a frame
abbrev pub IsAhead : State → ℕ → Frame → Type 0
IsAhead s from (Numbered i body) = ⊥
IsAhead s from (Got count) = next_of (peer_at s from) < count

abbrev pub IsStale : State → ℕ → Frame → Type 0
IsStale s from (Numbered i body) = (i ≡ (peer_at s from).expected) × (time_of body ≤ (peer_at s from).seen)
IsStale s from (Got count) = ⊥

abbrev pub IsFull : State → ℕ → Frame → Type 0
IsFull s from (Numbered i body) = (i ≡ (peer_at s from).expected) × (LAST_TIME < max s.clock (time_of body) + 1)
IsFull s from (Got count) = ⊥

abbrev pub names_register : ℕ → Body → Type 0
names_register registers (Cast t op) = register_of op < registers
names_register registers (Ack t) = Unit {0}

-- No frame on a wire is refused.
pub record NoRefusal (n registers : ℕ) (w : Nodes) : Type 0 where
  pub not_ahead : (a b : ℕ) (f : Frame) → a < n → b < n → (a ≡ b → ⊥) → In f ((w a).wire b) → IsAhead (w b).state a f
      → ⊥
  pub not_stale : (a b : ℕ) (f : Frame) → a < n → b < n → (a ≡ b → ⊥) → In f ((w a).wire b) → IsStale (w b).state a f
      → ⊥
  pub not_full : (a b : ℕ) (f : Frame) → a < n → b < n → (a ≡ b → ⊥) → In f ((w a).wire b) → IsFull (w b).state a f → ⊥
  pub call_fits : (p : ℕ) → p < n → (w p).state.clock + 1 ≤ LAST_TIME
  -- every link has a number left
  pub number_left : (a b : ℕ) → a < n → b < n → (a ≡ b → ⊥) → next_of (peer_at (w a).state b) < FRAME_NUMBERS
  pub in_range : (a b i : ℕ) (body : Body) → a < n → b < n → (a ≡ b → ⊥) → In (Numbered i body) ((w a).wire b)
      → names_register registers body

-- at every process no data frame, over all its links, waits for an acknowledgement
abbrev pub AllAcknowledged : ℕ → Nodes → Type 0
AllAcknowledged n w = (p : ℕ) → p < n → pending_of (w p).state.peers ≡ 0

-- Every list of deliveries has all casts made.
abbrev pub DeliveriesFull : ℕ → Nodes → Type 0
DeliveriesFull n w = (q : ℕ) (c : Delivered) → q < n → IsMade n w c → In c (w q).deliveries

-- Every list of deliveries has all casts made, no process is busy, and all copies are equal.
pub record IsQuiescent (n : ℕ) (w : Nodes) : Type 0 where
  pub full : DeliveriesFull n w
  pub idle : (p : ℕ) → p < n → (w p).state.running ≡ None
  pub equal : (p q : ℕ) → p < n → q < n → (w p).state.copy ≡ (w q).state.copy
