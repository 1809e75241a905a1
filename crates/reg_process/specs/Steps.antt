-- The parts of an event, and what they do to the state. They carry a proof: no promise speaks of them.
use Rattle.std.specs.Prelude.{ℕ, ◌≡◌, ◌<◌, ◌+◌, length, Bool, true, false, ◌==◌, ◌||◌, not, nat_le, cond, max, List, []}
use Rattle.std.specs.Prelude.{◌∷◌, Option, Some, None}
use Rattle.reg_base.specs.declared.stamps.Delivered.{Delivered}
use Rattle.reg_process.specs.declared.steps.Reply.{Reply}
use Rattle.reg_base.specs.declared.stamps.Stamp.{Stamp}
use Rattle.reg_base.specs.declared.memory.Op.{Op}
use Rattle.reg_frames.specs.declared.bodies.Body.{Body}
use Rattle.reg_frames.specs.declared.bodies.Body.TheVariants.{Cast, Ack}
use Rattle.reg_front.specs.declared.starts.Start.{Start}
use Rattle.reg_front.specs.declared.starts.Start.TheVariants.{Cast as Casts, CastAndAnswer as CastsAndAnswers}
use Rattle.reg_base.specs.declared.limits.TheConstants.{LAST_TIME}
use Rattle.reg_base.specs.Order.{insert}
use Rattle.reg_process.specs.Process.{State, Outcome, Running, Own, clear_casts, delivered_state, due, cast_made}
use Rattle.reg_process.specs.Process.{stamp_at, cast_at, data_frames, queues, accepts, both_frames, got_frames, peer_at}
use Rattle.reg_frames.specs.declared.puts.Put.{Put}
use Rattle.reg_process.specs.declared.faults.ProcessFault.{ProcessFault}
use Rattle.reg_process.specs.declared.faults.ProcessFault.TheVariants.{ClockFull, OutOfMemory}
use Rattle.reg_process.specs.Puts.{puts}
use Rattle.reg_process.specs.Faults.{first_of}
use Rattle.reg_process.specs.Events.{IsOutcome}

-- the state and what goes out
pub record Goes (n : ℕ) (r : State × Outcome) (frames : List Put) (cast : Option Stamp) (delivered : List Delivered)
    (reply : Option Reply) (new : State) : Type 0 where
  pub state : new ≡ r.0
  pub outcome : IsOutcome n r.1 frames cast delivered reply

abbrev pub cast_start : Bool → Start
cast_start runs = cond runs Casts CastsAndAnswers

abbrev pub is_peer : State → ℕ → Bool
is_peer s from = not (nat_le (length s.peers) from || from == s.me)

-- what stops a process: the clock is full, or memory is refused
abbrev pub Stops : Bool → ProcessFault → Type 0
Stops full OutOfMemory = full ≡ false
Stops full ClockFull = full ≡ true
Stops full f = ⊥

-- the only fault of an operation that starts is a full clock
abbrev pub StopsAt : Option ProcessFault → ProcessFault → Type 0
StopsAt full OutOfMemory = full ≡ None
StopsAt full ClockFull = full ≡ Some ClockFull
StopsAt full f = ⊥

-- a refused frame changes nothing, unless the process stops
abbrev pub FrameRefused : Option ProcessFault → State → ProcessFault → State → Type 0
FrameRefused why old OutOfMemory new = why ≡ None
FrameRefused why old ClockFull new = why ≡ Some ClockFull
FrameRefused why old fault new = (why ≡ Some fault) × (new ≡ old)

-- the first clear cast was delivered
pub record DeliversOne (s : State) (d : Delivered) (reply : Option Reply) (s' : State) : Type 0 where
  pub casts : clear_casts s ≡ d ∷ clear_casts s'
  pub state : delivered_state s ≡ delivered_state s'
  pub answer : due s ≡ first_of reply (due s')

-- no held cast is clear
pub record DeliversNone (s : State) : Type 0 where
  pub casts : clear_casts s ≡ []
  pub state : delivered_state s ≡ s
  pub answer : due s ≡ None

-- all clear casts were delivered
pub record Delivers (s : State) (ds : List Delivered) (reply : Option Reply) (s' : State) : Type 0 where
  pub casts : ds ≡ clear_casts s
  pub state : s' ≡ delivered_state s
  pub answer : reply ≡ due s

abbrev pub own_running : Bool → Stamp → Op → Option Running
own_running runs stamp op = cond runs (Some (Own stamp op)) None

-- an own cast was made
pub record MakesCast (s : State) (op : Op) (runs : Bool) (made : Stamp) (frames : List Put) (s' : State) : Type 0 where
  pub room : s.clock < LAST_TIME
  pub stamp : made ≡ stamp_at (s.clock + 1) s.me
  pub state : s' ≡ cast_made s op (own_running runs (stamp_at (s.clock + 1) s.me) op)
  pub put : frames ≡ puts (data_frames s (Some (Cast (s.clock + 1) op))) (length s.peers)

abbrev pub with_cast : State → ℕ → ℕ → Op → State
with_cast s from t op =
    record (queues (max s.clock t + 1) (Ack (max s.clock t + 1)) (accepts from t s)) {
      held = insert (cast_at t from op)
          s.held;
    }

-- a body was accepted with its cast
pub record TakesCast (s : State) (from t : ℕ) (op : Op) (frames : List Put) (s' : State) : Type 0 where
  pub room : max s.clock t < LAST_TIME
  pub state : s' ≡ with_cast s from t op
  pub put : frames
      ≡ puts
      (both_frames (got_frames from ((peer_at s from).expected + 1)) (data_frames s (Some (Ack (max s.clock t + 1)))))
      (length s.peers)

-- a body without a cast was accepted
pub record TakesAck (s : State) (from t : ℕ) (frames : List Put) (s' : State) : Type 0 where
  pub room : max s.clock t < LAST_TIME
  pub state : s' ≡ accepts from t s
  pub put : frames ≡ puts (got_frames from ((peer_at s from).expected + 1)) (length s.peers)

abbrev pub TakesBody : State → ℕ → Body → List Put → State → Type 0
TakesBody s from (Cast t op) frames s' = TakesCast s from t op frames s'
TakesBody s from (Ack t) frames s' = TakesAck s from t frames s'
