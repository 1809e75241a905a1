-- The parts of a world, and what they do in an event. They carry a proof: no promise speaks of them.
use Rattle.std.specs.Prelude.{ℕ, ◌≡◌, ◌<◌, ◌≤◌, Bool, false, ◌==◌, drop, replicate, cond, nat_lt, List, [], length}
use Rattle.std.specs.Prelude.{Option, Some, None, Result, Ok, Err, slice_get, slice_index_or}
use Rattle.reg_base.specs.declared.limits.TheConstants.{MOST_PROCESSES, MOST_EVENTS, MOST_OPERATIONS}
use Rattle.reg_base.specs.declared.memory.Op.{Op}
use Rattle.reg_base.specs.Memory.{register_of}
use Rattle.reg_base.specs.Shape.{Extent}
use Rattle.reg_frames.specs.declared.bodies.Frame.{Frame}
use Rattle.reg_front.specs.declared.starts.Start.{Start}
use Rattle.reg_process.specs.declared.steps.Reply.{Reply}
use Rattle.reg_process.specs.declared.steps.Step.{Step}
use Rattle.reg_process.specs.declared.steps.Step.TheVariants.{Call as CallStep, Take as TakeStep, Tick as TickStep}
use Rattle.reg_process.specs.Parts.{state_of, first_parts}
use Rattle.reg_checkers.specs.History.{IsAt}
use Rattle.reg_process.specs.declared.events.Event.{Event}
use Rattle.reg_process.specs.declared.events.Event.TheVariants.{Call, Take, Tick}
use Rattle.reg_world.specs.declared.faults.WorldFault.{WorldFault}
use Rattle.reg_world.specs.declared.faults.WorldFault.TheVariants.{TooManyEvents, NoProcess, Busy, NoRegister}
use Rattle.reg_world.specs.declared.faults.WorldFault.TheVariants.{TooManyOperations, NoFrame}
use Rattle.reg_world.specs.World.{World, move_of, whole}
use Rattle.reg_world.specs.Histories.{Grows, Makes}
use Rattle.reg_world.specs.Tallies.{Tally}
use Rattle.reg_world.specs.Books.{AreTallies}
use Rattle.reg_world.specs.Pages.{Pages, tally_at}
use Rattle.reg_world.specs.Members.{Standing, listed}
use Rattle.reg_world.specs.Worlds.{Made, run_in, with_event, reply_in, Accepts, Refuses}

-- what the book tells is what the run of its events tells
pub record Tells (start : Op → ℕ → Start) (b : Pages) : Type 0 where
  pub accepted : (whole start b.shape.processes b.shape.registers b.accepted).accepted ≡ b.accepted
  pub entries : (whole start b.shape.processes b.shape.registers b.accepted).history ≡ b.entries
  pub order : (whole start b.shape.processes b.shape.registers b.accepted).order ≡ b.order
  pub reads : (whole start b.shape.processes b.shape.registers b.accepted).reads ≡ b.reads
  pub tallies : AreTallies b.shape.processes (whole start b.shape.processes b.shape.registers b.accepted) b.tallies

-- a process of the run with its wires
abbrev pub standing_of : ℕ → World → ℕ → Standing
standing_of n w p = record { failed = false; state = (w.nodes p).state; wires = listed (w.nodes p).wire n }

-- the processes stand as the run has them
pub record Stand (start : Op → ℕ → Start) (b : Pages) (members : List Standing) : Type 0 where
  pub each : (p : ℕ) → p < b.shape.processes
      → IsAt members p (standing_of b.shape.processes (whole start b.shape.processes b.shape.registers b.accepted) p)

-- What is true of the parts of a world. After a stop nothing is claimed of the processes and wires.
pub record IsWorld (start : Op → ℕ → Start) (failed : Bool) (members : List Standing) (b : Pages) : Type 0 where
  pub few : b.shape.processes ≤ MOST_PROCESSES
  pub size : length members ≡ b.shape.processes
  pub tells : Tells start b
  pub makes : Makes b.accepted b.entries
  pub stand : failed ≡ false → Stand start b members

abbrev pub made_of : Bool → Pages → Made
made_of failed b =
    record {
      failed = failed;
      processes = b.shape.processes;
      registers = b.shape.registers;
      accepted = b.accepted;
      history = b.entries;
    }

-- which process makes which step in an event, from the parts of a world
abbrev pub tally_fault : Tally → ℕ → Op → Option WorldFault
tally_fault t registers op =
    cond t.runs (Some Busy)
    (cond (nat_lt (register_of op) registers) (cond (nat_lt t.calls MOST_OPERATIONS) None (Some TooManyOperations))
    (Some NoRegister))

abbrev pub call_refusal : List Tally → ℕ → ℕ → Op → Option WorldFault
call_refusal tallies registers p op =
    cond (nat_lt p (length tallies)) (tally_fault (tally_at tallies p) registers op) (Some NoProcess)

abbrev pub wire_in : Option Standing → ℕ → List Frame
wire_in None to = []
wire_in (Some s) to = slice_index_or s.wires to []

abbrev pub frame_or : Option Frame → Result Frame WorldFault
frame_or None = Err NoFrame
frame_or (Some frame) = Ok frame

abbrev pub frame_in : List Standing → ℕ → ℕ → ℕ → Result Frame WorldFault
frame_in members from to number =
    cond (nat_lt from (length members))
    (cond (nat_lt to (length members))
    (cond (from == to) (Err NoFrame) (frame_or (slice_get (wire_in (slice_get members from) to) number)))
    (Err NoProcess))
    (Err NoProcess)

abbrev pub call_or : Option WorldFault → ℕ → Op → Result (ℕ × Step) WorldFault
call_or None p op = Ok (p, CallStep op)
call_or (Some fault) p op = Err fault

abbrev pub take_or : Result Frame WorldFault → ℕ → ℕ → Result (ℕ × Step) WorldFault
take_or (Ok frame) from to = Ok (to, TakeStep from frame)
take_or (Err fault) from to = Err fault

abbrev pub found_step : List Standing → Pages → Event → Result (ℕ × Step) WorldFault
found_step members b (Call p op) = call_or (call_refusal b.tallies b.shape.registers p op) p op
found_step members b (Take from to number) = take_or (frame_in members from to number) from to
found_step members b (Tick p) = cond (nat_lt p (length members)) (Ok (p, TickStep)) (Err NoProcess)

abbrev pub found : List Standing → Pages → Event → Result (ℕ × Step) WorldFault
found members b e = cond (nat_lt (length b.accepted) MOST_EVENTS) (found_step members b e) (Err TooManyEvents)

abbrev pub IsMove : (Op → ℕ → Start) → Pages → Event → ℕ × Step → Type 0
IsMove start b e m = move_of b.shape.processes b.shape.registers (run_in start (made_of false b)) e ≡ Some m

-- the event was made, with this reply
pub record Advances (start : Op → ℕ → Start) (old : Pages) (e : Event) (answer : Option Reply) (members : List Standing)
    (new : Pages) : Type 0 where
  pub world : IsWorld start false members new
  pub made : made_of false new ≡ with_event start (made_of false old) e
  pub reply : answer ≡ reply_in start (made_of false old) e
  pub grows : Grows (length old.accepted) old.entries e answer new.entries

-- the parts of a world after an event, which is no longer ahead
pub record PartsGoOn (start : Op → ℕ → Start) (old : Pages) (e : Event) (members : List Standing)
    (new : Pages) : Type 0 where
  pub world : IsWorld start false members new
  pub accepts : Accepts start (made_of false old) e (made_of false new)
  pub ahead : new.ahead ≡ drop 1 old.ahead

-- why the parts of a world refuse an event
abbrev pub PartsRefuse : (Op → ℕ → Start) → Pages → Event → WorldFault → Type 0
PartsRefuse start b e fault = (after : Made) × Refuses start (made_of false b) e fault after

-- a process that did nothing yet
abbrev pub first_standing : Extent → ℕ → Standing
first_standing shape p =
    record {
      failed = false;
      state = state_of (first_parts p shape.processes shape.registers);
      wires = replicate shape.processes [];
    }
