-- A run: all processes and wires, and what is told of the events accepted so far.
use Rattle.std.specs.Prelude.{ℕ, ◌-◌, Bool, ◌&&◌, ◌==◌, nat_lt, cond, List, [], ◌∷◌, ◌++◌, length, map, Option, Some}
use Rattle.std.specs.Prelude.{None, slice_get}
use Rattle.reg_base.specs.declared.limits.TheConstants.{MOST_EVENTS, MOST_OPERATIONS}
use Rattle.std.specs.Option.{is_some}
use Rattle.std.specs.List.{list_any}
use Rattle.reg_base.specs.declared.stamps.Stamp.{Stamp}
use Rattle.reg_base.specs.declared.stamps.Delivered.{Delivered}
use Rattle.reg_base.specs.declared.memory.Op.{Op}
use Rattle.reg_base.specs.declared.memory.OpId.{OpId}
use Rattle.reg_base.specs.Memory.{register_of}
use Rattle.reg_frames.specs.declared.bodies.Frame.{Frame}
use Rattle.reg_front.specs.declared.starts.Start.{Start}
use Rattle.reg_process.specs.declared.steps.Reply.{Reply}
use Rattle.reg_process.specs.declared.steps.Step.{Step}
use Rattle.reg_process.specs.declared.steps.Step.TheVariants.{Call, Take, Tick}
use Rattle.reg_process.specs.Process.{State, Outcome, step}
use Rattle.reg_checkers.specs.declared.entries.Entry.{Entry}
use Rattle.reg_checkers.specs.declared.entries.Entry.TheVariants.{Called, Answered}
use Rattle.reg_process.specs.declared.events.Event.{Event}
use Rattle.reg_process.specs.declared.events.Event.TheVariants.{Call as CallOf, Take as TakeOf, Tick as TickOf}
use Rattle.reg_world.specs.declared.faults.WorldFault.{WorldFault}
use Rattle.reg_world.specs.declared.faults.WorldFault.TheVariants.{TooManyEvents, NoProcess, Busy, NoRegister}
use Rattle.reg_world.specs.declared.faults.WorldFault.TheVariants.{TooManyOperations, NoFrame}
use Rattle.reg_world.specs.declared.order.First.{First}
use Rattle.reg_world.specs.declared.order.CopyRead.{CopyRead}
use Rattle.reg_world.specs.Nodes.{Nodes, put, empty, after_step, step_of, unseen}
use Rattle.reg_world.specs.Runs.{Cast, Run}

-- a reply with its place, to the operation of this id, by event at
pub record Replied : Type 0 where
  pub id : OpId
  pub at : ℕ
  pub reply : Reply

-- The nodes, the events accepted, the calls and answers by event, every cast made, each cast's first delivery, the
-- reads answered from a copy, and all replies with their places.
pub record World : Type 0 where
  pub nodes : Nodes
  pub accepted : List Event
  pub history : List Entry
  pub casts : List Cast
  pub order : List First
  pub reads : List CopyRead
  pub replies : List Replied

abbrev pub empty_world : ℕ → ℕ → World
empty_world n registers =
    record { nodes = empty n registers; accepted = []; history = []; casts = []; order = []; reads = []; replies = [] }

abbrev pub op_id : ℕ → ℕ → OpId
op_id p number = record { process = p; number = number }

-- what a step of p at event at adds, its operation having this number
abbrev pub calls_in : ℕ → OpId → Step → List Entry
calls_in at id (Call op) = Called at id op ∷ []
calls_in at id (Take from frame) = []
calls_in at id Tick = []

abbrev pub answers_in : ℕ → OpId → Option Reply → List Entry
answers_in at id None = []
answers_in at id (Some reply) = Answered at id reply.answer ∷ []

abbrev pub replies_in : ℕ → OpId → Option Reply → List Replied
replies_in at id None = []
replies_in at id (Some reply) = record { id = id; at = at; reply = reply } ∷ []

abbrev pub cast_in : OpId → Op → Option Stamp → List Cast
cast_in id op None = []
cast_in id op (Some stamp) = record { stamp = stamp; id = id; op = op } ∷ []

abbrev pub casts_in : OpId → Step → Option Stamp → List Cast
casts_in id (Call op) cast = cast_in id op cast
casts_in id (Take from frame) cast = []
casts_in id Tick cast = []

-- an operation that made no cast is answered from a copy
abbrev pub has_cast : List Cast → OpId → Bool
has_cast casts id = list_any (λ (c : Cast). (c.id.process == id.process) && (c.id.number == id.number)) casts

abbrev pub reads_in : List Cast → OpId → Option Reply → List CopyRead
reads_in casts id None = []
reads_in casts id (Some reply) = cond (has_cast casts id) [] (record { id = id; place = reply.place } ∷ [])

-- the operation whose cast has this stamp
abbrev pub id_of : List Cast → Stamp → OpId
id_of [] stamp = op_id stamp.process 0
id_of (c ∷ cs) stamp = cond ((c.stamp.time == stamp.time) && (c.stamp.process == stamp.process)) c.id (id_of cs stamp)

abbrev pub first_of : List Cast → ℕ → Delivered → First
first_of casts at c = record { stamp = c.stamp; id = id_of casts c.stamp; op = c.op; at = at }

abbrev pub delivered_of : First → Delivered
delivered_of f = record { stamp = f.stamp; op = f.op }

-- The process p made a step, with this state before and this result.
abbrev pub told : World → Event → ℕ → State → Step → State × Outcome → Nodes → World
told w e p s m r nodes = record {
  nodes = nodes;
  accepted = w.accepted ++ e ∷ [];
  history = (w.history ++ calls_in (length w.accepted) (op_id p s.calls) m)
      ++ answers_in (length w.accepted) (op_id p (r.0.calls - 1)) r.1.reply;
  casts = w.casts ++ casts_in (op_id p s.calls) m r.1.cast;
  order = w.order
      ++ map (first_of (w.casts ++ casts_in (op_id p s.calls) m r.1.cast) (length w.accepted))
      (unseen (map delivered_of w.order) r.1.delivered);
  reads = w.reads ++ reads_in (w.casts ++ casts_in (op_id p s.calls) m r.1.cast) (op_id p (r.0.calls - 1)) r.1.reply;
  replies = w.replies ++ replies_in (length w.accepted) (op_id p (r.0.calls - 1)) r.1.reply;
}

-- which process makes which step in the event, or None where the event is refused
abbrev pub move_of : ℕ → ℕ → World → Event → Option (ℕ × Step)
move_of n registers w e = cond (nat_lt (length w.accepted) MOST_EVENTS) (step_of n registers w.nodes e) None

abbrev pub moved : (Op → ℕ → Start) → World → Event → Option (ℕ × Step) → World
moved start w e None = w
moved start w e (Some m) =
    told w e m.0 (w.nodes m.0).state m.1 (step start (w.nodes m.0).state m.1)
    (put w.nodes m.0 (after_step start (w.nodes m.0) m.1))

-- A refused event changes nothing.
abbrev pub happens : (Op → ℕ → Start) → ℕ → ℕ → World → Event → World
happens start n registers w e = moved start w e (move_of n registers w e)

abbrev pub run : (Op → ℕ → Start) → ℕ → ℕ → List Event → World → World
run start n registers [] w = w
run start n registers (e ∷ es) w = run start n registers es (happens start n registers w e)

-- the world after these events
abbrev pub whole : (Op → ℕ → Start) → ℕ → ℕ → List Event → World
whole start n registers events = run start n registers events (empty_world n registers)

-- what the orders of a run rest on
abbrev pub run_of : ℕ → World → Run
run_of registers w =
    record { registers = registers; history = w.history; casts = w.casts; order = w.order; reads = w.reads }

-- the first fault that applies to an event, `OutOfMemory` aside
abbrev pub call_fault : ℕ → ℕ → State → ℕ → Op → Option WorldFault
call_fault n registers s p op =
    cond (nat_lt p n)
    (cond (is_some s.running) (Some Busy)
    (cond (nat_lt (register_of op) registers)
    (cond (nat_lt s.calls MOST_OPERATIONS) None (Some TooManyOperations))
    (Some NoRegister)))
    (Some NoProcess)

abbrev pub frame_fault : Option Frame → Option WorldFault
frame_fault None = Some NoFrame
frame_fault (Some frame) = None

abbrev pub event_fault : ℕ → ℕ → Nodes → Event → Option WorldFault
event_fault n registers w (CallOf p op) = call_fault n registers (w p).state p op
event_fault n registers w (TakeOf from to number) =
    cond (nat_lt from n)
    (cond (nat_lt to n) (cond (from == to) (Some NoFrame) (frame_fault (slice_get ((w from).wire to) number)))
    (Some NoProcess))
    (Some NoProcess)
event_fault n registers w (TickOf p) = cond (nat_lt p n) None (Some NoProcess)

abbrev pub world_fault : ℕ → ℕ → World → Event → Option WorldFault
world_fault n registers w e =
    cond (nat_lt (length w.accepted) MOST_EVENTS) (event_fault n registers w.nodes e) (Some TooManyEvents)
