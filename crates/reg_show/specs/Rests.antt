-- The run of a schedule, brought to rest.
use Rattle.std.specs.Prelude.{ℕ, ◌≡◌, ◌+◌, ◌<◌, List, length}
use Rattle.reg_base.specs.declared.limits.TheConstants.{MOST_EVENTS}
use Rattle.reg_base.specs.declared.memory.Op.{Op}
use Rattle.reg_front.specs.declared.starts.Start.{Start}
use Rattle.reg_world.specs.Worlds.{Made, after_events}
use Rattle.reg_records.specs.Rest.{Settles, most_to_rest}
use Rattle.reg_inputs.specs.Schedules.{Plan}
use Rattle.reg_commands.specs.Replays.{run_by, plan_in, BlamesRun}
use Rattle.reg_inputs.specs.ScheduleText.{IsScheduleText, schedule_text}
use Rattle.reg_show.specs.declared.faults.ShowFault.{ShowFault}
use Rattle.reg_show.specs.declared.faults.ShowFault.TheVariants.{Command, TooManyToRest}

-- All events of a plan are accepted, and its run was brought to rest.
pub record IsRested (start : Op → ℕ → Start) (p : Plan) (made : Made) : Type 0 where
  pub accepted : (run_by start p).accepted ≡ p.events
  pub count : ℕ
  pub settled : Settles start (after_events start p.shape p.events) count made

-- The plan's run was brought to rest, and the schedule of all its events was written, under the plan's front end and
-- names.
pub record WritesRest (start : Op → ℕ → Start) (Wrote : List ℕ → Type 0) (p : Plan) : Type 0 where
  pub made : Made
  pub rested : IsRested start p made
  pub schedule : IsScheduleText (plan_in p.front p.names made)
  pub written : Wrote (schedule_text (plan_in p.front p.names made))

-- All events of a plan are accepted, and a run has no room for as many more as rest may take.
pub record LacksRoom (start : Op → ℕ → Start) (p : Plan) : Type 0 where
  pub accepted : (run_by start p).accepted ≡ p.events
  pub many : MOST_EVENTS < length p.events + most_to_rest p.shape.processes (run_by start p).nodes

-- what a fault says of the run of a plan
abbrev pub BlamesRested : (Op → ℕ → Start) → Plan → ShowFault → Type 0
BlamesRested start p (Command fault) = BlamesRun start p fault
BlamesRested start p TooManyToRest = LacksRoom start p
BlamesRested start p _ = ⊥
