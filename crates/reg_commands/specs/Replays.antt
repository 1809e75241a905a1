-- What the replay of a schedule writes.
use Rattle.std.specs.Prelude.{ℕ, ◌≡◌, ◌≤◌, List, take, Option, Some, None}
use Rattle.reg_base.specs.declared.limits.TheConstants.{LAST_EVENT}
use Rattle.reg_base.specs.declared.memory.Op.{Op}
use Rattle.reg_front.specs.declared.starts.Start.{Start}
use Rattle.reg_front.specs.declared.named.Front.{Front}
use Rattle.reg_front.specs.declared.named.Front.TheVariants.{Linear, LocalRead, LocalWrite}
use Rattle.reg_front.specs.Table.{linear, front_name}
pub use Rattle.reg_front.specs.Table.{start_of}
use Rattle.reg_checkers.specs.declared.entries.Entry.{Entry}
use Rattle.reg_checkers.specs.declared.entries.Point.{Point}
use Rattle.reg_checkers.specs.History.{IsAt}
use Rattle.reg_checkers.specs.Orders.{IsSerial, IsPointOrder}
use Rattle.reg_history.specs.Reports.{Contents, report_text}
use Rattle.reg_world.specs.RealTime.{KeepsUpdates}
use Rattle.reg_world.specs.World.{World, run_of, whole, world_fault}
use Rattle.reg_process.specs.declared.events.Event.{Event}
use Rattle.reg_world.specs.declared.faults.RunFault.{RunFault}
use Rattle.reg_world.specs.declared.faults.WorldFault.{WorldFault}
use Rattle.reg_world.specs.declared.faults.WorldFault.TheVariants.{OutOfMemory as NoMemory}
use Rattle.reg_world.specs.Keys.{IsWitness, ArePoints}
use Rattle.reg_world.specs.Worlds.{Made}
use Rattle.reg_inputs.specs.Schedules.{Plan, IsPlan, Spells}
use Rattle.reg_commands.specs.declared.faults.Fault.{Fault}
use Rattle.reg_commands.specs.declared.faults.Fault.TheVariants.{Event as EventFault, OutOfMemory}

-- the run of a plan's events
abbrev pub run_by : (Op → ℕ → Start) → Plan → World
run_by start p = whole start p.shape.processes p.shape.registers p.events

-- what a world did as a plan, under a front end and names
abbrev pub plan_in : Front → List (List ℕ) → Made → Plan
plan_in front names w =
    record {
      shape = record { processes = w.processes; registers = w.registers };
      names = names;
      front = front;
      events = w.accepted;
    }

-- the points are at events that a run may have
abbrev pub AreAtEvents : List Point → Type 0
AreAtEvents ps = (k : ℕ) (p : Point) → IsAt ps k p → p.at ≤ LAST_EVENT

-- points, where there are any, are a point order, at events that a run may have
abbrev pub PointsStand : ℕ → List Entry → Option (List Point) → Type 0
PointsStand registers h None = Unit {0}
PointsStand registers h (Some ps) = IsPointOrder registers h ps × AreAtEvents ps

-- The report's order is a serial order of its history, and its points, where it has any, are a linearization. This
-- takes no definition of a run.
pub record IsOrdered (r : Contents) : Type 0 where
  pub serial : IsSerial r.shape.registers r.entries r.order
  pub points : PointsStand r.shape.registers r.entries r.points

-- All events of a plan are accepted, and this is the report of the run: its history and its witness, under the plan's
-- front end and names. In that order what may change the memory stands after what was answered before its call, except
-- what the front end may answer before its delivery.
pub record Shows (start : Op → ℕ → Start) (p : Plan) (r : Contents) : Type 0 where
  pub accepted : (run_by start p).accepted ≡ p.events
  pub front : r.front ≡ front_name p.front
  pub shape : r.shape ≡ p.shape
  pub names : r.names ≡ p.names
  pub entries : r.entries ≡ (run_by start p).history
  pub order : IsWitness (run_of p.shape.registers (run_by start p)) r.order
  pub ordered : IsOrdered r
  pub real_time : KeepsUpdates start r.entries r.order

-- the points are those of the run
abbrev pub ShowsPoints : (Op → ℕ → Start) → Plan → Option (List Point) → Type 0
ShowsPoints start p None = ⊥
ShowsPoints start p (Some ps) = ArePoints (run_of p.shape.registers (run_by start p)) ps

-- a real-time front end has points, the others have none
abbrev pub PointsOf : Front → Plan → Option (List Point) → Type 0
PointsOf Linear p points = ShowsPoints linear p points
PointsOf LocalRead p points = points ≡ None
PointsOf LocalWrite p points = points ≡ None

-- the report of a plan's run
pub record IsReportOf (p : Plan) (r : Contents) : Type 0 where
  pub shows : Shows (start_of p.front) p r
  pub points : PointsOf p.front p r.points

-- The text is that of a plan, and the report of its run was written: `Wrote` says how a text was written.
pub record Replays (Wrote : List ℕ → Type 0) (text : List ℕ) : Type 0 where
  pub plan : Plan
  pub good : IsPlan plan
  pub read : Spells text plan
  pub report : Contents
  pub shown : IsReportOf plan report
  pub written : Wrote (report_text report)

-- the run of a plan's events before this one
abbrev pub run_before : (Op → ℕ → Start) → Plan → ℕ → World
run_before start p at = whole start p.shape.processes p.shape.registers (take at p.events)

-- All events of a plan before this one are accepted, and the first fault that applies to it after them is this.
pub record IsFirstRefused (start : Op → ℕ → Start) (p : Plan) (at : ℕ) (fault : WorldFault) : Type 0 where
  pub event : Event
  pub here : IsAt p.events at event
  pub before : (run_before start p at).accepted ≡ take at p.events
  pub refused : world_fault p.shape.processes p.shape.registers (run_before start p at) event ≡ Some fault

-- The text is that of a plan, and this is the first event that is refused, with its fault.
pub record RefusesAt (at : ℕ) (fault : WorldFault) (text : List ℕ) : Type 0 where
  pub plan : Plan
  pub good : IsPlan plan
  pub read : Spells text plan
  pub first : IsFirstRefused (start_of plan.front) plan at fault

-- what a fault of a run says of its plan
abbrev pub BlamesRun : (Op → ℕ → Start) → Plan → Fault → Type 0
BlamesRun start p (EventFault at fault) = IsFirstRefused start p at fault
BlamesRun start p OutOfMemory = Unit {0}
BlamesRun start p fault = ⊥

-- a fault of a run as that of a command
abbrev pub fault_at : ℕ → WorldFault → Fault
fault_at at NoMemory = OutOfMemory
fault_at at fault = EventFault at fault

abbrev pub fault_of_run : RunFault → Fault
fault_of_run run = fault_at run.at run.fault
