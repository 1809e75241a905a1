-- A world as its callers see it.
use Rattle.std.specs.Prelude.{ℕ, ◌≡◌, ◌<◌, ◌≤◌, Bool, true, false, ◌⊎◌, take, cond, List, [], ◌∷◌, ◌++◌, length, Option}
use Rattle.std.specs.Prelude.{Some, None, slice_get}
use Rattle.reg_base.specs.declared.memory.Op.{Op}
use Rattle.reg_base.specs.Shape.{Extent}
use Rattle.reg_frames.specs.declared.bodies.Frame.{Frame}
use Rattle.reg_front.specs.declared.starts.Start.{Start}
use Rattle.reg_process.specs.declared.steps.Reply.{Reply}
use Rattle.reg_process.specs.declared.steps.Step.{Step}
use Rattle.reg_process.specs.Process.{step}
use Rattle.reg_process.specs.Events.{Kept, IsGoing}
use Rattle.reg_checkers.specs.declared.entries.Entry.{Entry}
use Rattle.reg_checkers.specs.History.{IsAt}
use Rattle.reg_process.specs.declared.events.Event.{Event}
use Rattle.reg_world.specs.declared.faults.WorldFault.{WorldFault}
use Rattle.reg_world.specs.declared.faults.WorldFault.TheVariants.{Failed, OutOfMemory}
use Rattle.reg_world.specs.World.{World, move_of, world_fault, whole}

-- a world: whether it has stopped, its shape, the events that it accepted, and its history
pub record Made : Type 0 where
  pub failed : Bool
  pub processes : ℕ
  pub registers : ℕ
  pub accepted : List Event
  pub history : List Entry

-- the run of its events, to which all laws apply
abbrev pub run_in : (Op → ℕ → Start) → Made → World
run_in start w = whole start w.processes w.registers w.accepted

-- why an event is refused, `OutOfMemory` aside
abbrev pub refusal : (Op → ℕ → Start) → Made → Event → Option WorldFault
refusal start w e = cond w.failed (Some Failed) (world_fault w.processes w.registers (run_in start w) e)

-- a world with one more event
abbrev pub with_event : (Op → ℕ → Start) → Made → Event → Made
with_event start w e =
    record w {
      accepted = w.accepted ++ e ∷ [];
      history = (whole start w.processes w.registers (w.accepted ++ e ∷ [])).history;
    }

-- a world as it was, but stopped for good
abbrev pub stopped : Made → Made
stopped w = record w { failed = true }

-- the reply that an event gives
abbrev pub reply_of_move : (Op → ℕ → Start) → World → Option (ℕ × Step) → Option Reply
reply_of_move start w None = None
reply_of_move start w (Some m) = (step start (w.nodes m.0).state m.1).1.reply

abbrev pub reply_in : (Op → ℕ → Start) → Made → Event → Option Reply
reply_in start w e = reply_of_move start (run_in start w) (move_of w.processes w.registers (run_in start w) e)

-- An event that no fault applies to was accepted.
pub record Accepts (start : Op → ℕ → Start) (old : Made) (e : Event) (new : Made) : Type 0 where
  pub no_fault : refusal start old e ≡ None
  pub after : new ≡ with_event start old e

-- An event was refused: by the first fault that applies, and nothing has changed; or because memory was refused, and
-- the world has stopped.
abbrev pub Refuses : (Op → ℕ → Start) → Made → Event → WorldFault → Made → Type 0
Refuses start old e OutOfMemory new = (refusal start old e ≡ None) × (new ≡ stopped old)
Refuses start old e fault new = (refusal start old e ≡ Some fault) × (new ≡ old)

-- a world in which nothing happened yet
abbrev pub new_world : Extent → Made
new_world shape =
    record { failed = false; processes = shape.processes; registers = shape.registers; accepted = []; history = [] }

-- the world after the first events of a list, all of them accepted
abbrev pub after_events : (Op → ℕ → Start) → Extent → List Event → Made
after_events start shape events =
    record {
      failed = false;
      processes = shape.processes;
      registers = shape.registers;
      accepted = events;
      history = (whole start shape.processes shape.registers events).history;
    }

-- Why a run of these events ends at this one: the first fault that applies to it after those before it; or refused
-- memory, where no fault applies to it, or before the first event, of which it is told then.
abbrev pub RunRefuses : (Op → ℕ → Start) → Extent → List Event → ℕ → WorldFault → Type 0
RunRefuses start shape events at OutOfMemory =
    (at ≡ 0) ⊎ ((e : Event) × IsAt events at e × (refusal start (after_events start shape (take at events)) e ≡ None))
RunRefuses start shape events at fault =
    (e : Event) × IsAt events at e × (refusal start (after_events start shape (take at events)) e ≡ Some fault)

-- the process p of the run, unless the world has stopped
abbrev pub IsProcess : (Op → ℕ → Start) → Made → ℕ → Kept → Type 0
IsProcess start w p k = (p < w.processes) × (w.failed ≡ false → IsGoing k ((run_in start w).nodes p).state)

-- all frames ever put from one process to another, unless the world has stopped
abbrev pub IsWire : (Op → ℕ → Start) → Made → ℕ → ℕ → List Frame → Type 0
IsWire start w from to frames =
    (from < w.processes) × (to < w.processes) × (from ≡ to → ⊥)
    × (w.failed ≡ false → frames ≡ ((run_in start w).nodes from).wire to)

abbrev pub IsNoWire : Made → ℕ → ℕ → Type 0
IsNoWire w from to = (w.processes ≤ from) ⊎ ((w.processes ≤ to) ⊎ (from ≡ to))

-- this number of frames was ever put from one process to another, unless the world has stopped
abbrev pub HasFrames : (Op → ℕ → Start) → Made → ℕ → ℕ → ℕ → Type 0
HasFrames start w from to count =
    (from < w.processes) × (to < w.processes) × (from ≡ to → ⊥)
    × (w.failed ≡ false → count ≡ length (((run_in start w).nodes from).wire to))

-- what stands at a place of the frames ever put from one process to another, unless the world has stopped
abbrev pub HasFrameAt : (Op → ℕ → Start) → Made → ℕ → ℕ → ℕ → Option Frame → Type 0
HasFrameAt start w from to number found =
    (from < w.processes) × (to < w.processes) × (from ≡ to → ⊥)
    × (w.failed ≡ false → found ≡ slice_get (((run_in start w).nodes from).wire to) number)

-- what stands at a place of the frames ever put from one process to another, or none where these are no two processes
abbrev pub IsFrameAt : (Op → ℕ → Start) → Made → ℕ → ℕ → ℕ → Option Frame → Type 0
IsFrameAt start w from to number found = (IsNoWire w from to × (found ≡ None)) ⊎ HasFrameAt start w from to number found
