-- What is told of the run of a schedule.
use Rattle.std.specs.Prelude.{ℕ, ◌≡◌, ◌≤◌, ◌++◌, List, length}
use Rattle.reg_base.specs.declared.memory.Op.{Op}
use Rattle.reg_front.specs.declared.starts.Start.{Start}
use Rattle.reg_inputs.specs.Schedules.{Plan}
use Rattle.reg_commands.specs.Replays.{start_of, run_by, BlamesRun}
use Rattle.reg_commands.specs.declared.faults.Fault.{Fault}
use Rattle.reg_commands.specs.declared.faults.Fault.TheVariants.{Output}
use Rattle.reg_trace.specs.Drawings.{IsDrawing}
use Rattle.reg_show.specs.declared.commands.TheConstants.{MOST_DRAWN}
use Rattle.reg_trace.specs.Moments.{moments_of}
use Rattle.reg_trace.specs.Traces.{title_line, trace_text}

-- all events of a plan are accepted in its run, where operations start so
abbrev pub IsRunWhole : (Op → ℕ → Start) → Plan → Type 0
IsRunWhole start p = (run_by start p).accepted ≡ p.events

-- All events of a plan are accepted, and the trace of its run was written, below the line of this title: `Wrote` says
-- how a text was.
pub record TellsRun (title : List ℕ) (Wrote : List ℕ → Type 0) (p : Plan) : Type 0 where
  pub accepted : IsRunWhole (start_of p.front) p
  pub written : Wrote (title_line title ++ trace_text p.names (moments_of (start_of p.front) p.shape p.events))

-- The plan has no more events than can be drawn, all of them accepted, and some drawing was written: `Wrote` says how a
-- text was. What it shows isn't said.
pub record DrawsRun (Wrote : List ℕ → Type 0) (p : Plan) : Type 0 where
  pub accepted : IsRunWhole (start_of p.front) p
  pub few : length p.events ≤ MOST_DRAWN
  pub drawing : List ℕ
  pub whole : IsDrawing drawing
  pub written : Wrote drawing

-- What a fault of a command says of a plan's run: that the output failed is told only where all its events are
-- accepted.
abbrev pub StopsRun : (Op → ℕ → Start) → Plan → Fault → Type 0
StopsRun start p Output = IsRunWhole start p
StopsRun start p fault = BlamesRun start p fault
