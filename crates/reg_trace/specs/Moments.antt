-- What the events of a run do, by the runs before and after each of them.
use Rattle.std.specs.Prelude.{ℕ, zero, suc, ◌+◌, ◌==◌, ◌&&◌, not, nat_lt, cond, List, [], ◌∷◌, ◌++◌, length, map, take}
use Rattle.std.specs.Prelude.{drop, Option, None, Some, slice_get, slice_index}
use Rattle.reg_base.specs.Shape.{Extent}
use Rattle.reg_base.specs.Memory.{Memory, after, register_of}
use Rattle.reg_base.specs.declared.memory.Op.{Op}
use Rattle.reg_base.specs.declared.stamps.Delivered.{Delivered}
use Rattle.reg_frames.specs.declared.bodies.Frame.{Frame}
use Rattle.reg_frames.specs.declared.bodies.Frame.TheVariants.{Numbered}
use Rattle.reg_front.specs.declared.starts.Start.{Start}
use Rattle.reg_process.specs.declared.steps.Reply.{Reply}
use Rattle.reg_process.specs.Process.{peer_at}
use Rattle.reg_process.specs.declared.events.Event.{Event}
use Rattle.reg_process.specs.declared.events.Event.TheVariants.{Call, Take, Tick}
use Rattle.reg_world.specs.Histories.{process_of}
use Rattle.reg_world.specs.Nodes.{Nodes}
use Rattle.reg_world.specs.World.{World, delivered_of}
use Rattle.reg_world.specs.Worlds.{Made, run_in, with_event, new_world, reply_in}
use Rattle.reg_trace.specs.declared.moments.Delivery.{Delivery}
use Rattle.reg_trace.specs.declared.moments.Sent.{Sent}
use Rattle.reg_trace.specs.declared.waits.Wait.{Wait}
use Rattle.reg_trace.specs.Waits.{waits_of}

-- these casts as a process with this copy delivers them, one after another: each with its register's value after it
abbrev pub deliveries_of : List Delivered → Memory → List Delivery
deliveries_of [] m = []
deliveries_of (cast ∷ casts) m =
    record { cast = cast; value = slice_index (after cast.op m) (register_of cast.op) }
    ∷ deliveries_of casts (after cast.op m)

-- What an event did: the process that it is of, the frame that a take took, the number that was expected where that is
-- a data frame out of turn, the clock of the process after it, the casts that the process delivered, each with its
-- register's value in the copy after it, the reply, the casts that it holds back, each with whom it waits for, and the
-- frames that it put, each with its wire's end and its place there.
pub record Fact : Type 0 where
  pub event : Event
  pub process : ℕ
  pub frame : Option Frame
  pub expected : Option ℕ
  pub clock : ℕ
  pub delivered : List Delivery
  pub reply : Option Reply
  pub waits : List Wait
  pub sent : List Sent

-- the frame that an event takes: the one at that place of that wire
abbrev pub frame_taken : ℕ → Nodes → Event → Option Frame
frame_taken n w (Call p op) = None
frame_taken n w (Take from to place) =
    cond (nat_lt from n && (nat_lt to n && not (from == to))) (slice_get ((w from).wire to) place) None
frame_taken n w (Tick p) = None

-- the number that the receiver of a take expects of the sender's next data frame
abbrev pub expected_by : ℕ → Nodes → Event → Option ℕ
expected_by n w (Call p op) = None
expected_by n w (Take from to place) =
    cond (nat_lt from n && (nat_lt to n && not (from == to))) (Some (peer_at (w to).state from).expected) None
expected_by n w (Tick p) = None

-- the number expected, where the frame is a data frame of another number: one that is dropped
abbrev pub out_of_turn : Option Frame → Option ℕ → Option ℕ
out_of_turn (Some (Numbered number body)) (Some expected) = cond (number == expected) None (Some expected)
out_of_turn frame expected = None

-- these frames for one process, the first of them at this place
abbrev pub placed : ℕ → ℕ → List Frame → List Sent
placed to place [] = []
placed to place (frame ∷ frames) = record { to = to; place = place; frame = frame } ∷ placed to (place + 1) frames

-- the frames on the wires of p to the first n processes that stand after the first ones: how many these are is given
-- for each wire
abbrev pub puts_since : ℕ → (ℕ → ℕ) → (ℕ → List Frame) → ℕ → List Sent
puts_since p lengths wire zero = []
puts_since p lengths wire (suc to) =
    puts_since p lengths wire to ++ cond (to == p) [] (placed to (lengths to) (drop (lengths to) (wire to)))

-- what an event of process p did, by the worlds before and after it: of the one order of casts, p delivered those after
-- the ones that it had delivered before, up to as many as it has delivered now
abbrev pub moment_between : ℕ → Event → ℕ → Option Reply → World → World → Fact
moment_between n e p reply before behind = record {
  event = e;
  process = p;
  frame = frame_taken n before.nodes e;
  expected = out_of_turn (frame_taken n before.nodes e) (expected_by n before.nodes e);
  clock = (behind.nodes p).state.clock;
  delivered = deliveries_of
      (drop (before.nodes p).state.delivered (take (behind.nodes p).state.delivered (map delivered_of behind.order)))
      (before.nodes p).state.copy;
  reply = reply;
  waits = waits_of n (behind.nodes p).state (behind.nodes p).state.held;
  sent = puts_since p (λ to. length ((before.nodes p).wire to)) (behind.nodes p).wire n;
}

abbrev pub moment_of : (Op → ℕ → Start) → Made → Event → Fact
moment_of start w e =
    moment_between w.processes e (process_of e) (reply_in start w e) (run_in start w)
    (run_in start (with_event start w e))

-- the moment of the first event in this world, and then those of the others in the world after it
abbrev pub moments_from : (Op → ℕ → Start) → Made → List Event → List Fact
moments_from start w [] = []
moments_from start w (e ∷ es) = moment_of start w e ∷ moments_from start (with_event start w e) es

-- the moments of a run of these events
abbrev pub moments_of : (Op → ℕ → Start) → Extent → List Event → List Fact
moments_of start shape events = moments_from start (new_world shape) events
