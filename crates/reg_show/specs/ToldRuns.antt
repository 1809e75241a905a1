-- Runs as they are told, and the bounds of the numbers of an event. They carry a proof: no promise speaks of them.
use Rattle.std.specs.Prelude.{ℕ, ◌≡◌, List, ◌≤◌}
use Rattle.reg_base.specs.declared.memory.Op.{Op}
use Rattle.reg_front.specs.declared.starts.Start.{Start}
use Rattle.reg_checkers.specs.declared.entries.Entry.{Entry}
use Rattle.reg_inputs.specs.Schedules.{Plan}
use Rattle.reg_commands.specs.Replays.{run_by}
use Rattle.reg_trace.specs.Moments.{Fact, moments_of}
use Rattle.reg_text.specs.Reading.{HasValue}
use Rattle.reg_process.specs.declared.events.Event.{Event}
use Rattle.reg_process.specs.declared.events.Event.TheVariants.{Call, Take, Tick}

-- All events of a plan are accepted, and these are its names, what its events did, and the history of its run.
pub record IsTold (start : Op → ℕ → Start) (p : Plan) (names : List (List ℕ)) (facts : List Fact)
    (entries : List Entry) : Type 0 where
  pub accepted : (run_by start p).accepted ≡ p.events
  pub named : names ≡ p.names
  pub did : facts ≡ moments_of start p.shape p.events
  pub history : entries ≡ (run_by start p).history

-- the numbers of an event are within their types
abbrev pub EventHasBits : Event → Type 0
EventHasBits (Call process op) = (process ≤ 255) × HasValue op
EventHasBits (Take from to number) = (from ≤ 255) × (to ≤ 255) × (number ≤ 4294967295)
EventHasBits (Tick process) = process ≤ 255
