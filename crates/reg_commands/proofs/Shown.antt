-- The report of a run, by what the world answers.
use Rattle.std.proofs.Common.{◌≡◌, ℕ, List, Option, Result, Ok, Err, refl, sym, ◌∙◌, subst}
use Rattle.std.specs.Prelude.{IfOk, IfErr}
use Rattle.reg_base.specs.declared.memory.Op.{Op}
use Rattle.reg_base.specs.declared.memory.OpId.{OpId}
use Rattle.reg_front.specs.declared.starts.Start.{Start}
use Rattle.reg_front.specs.declared.named.Front.{Front}
use Rattle.reg_front.specs.Table.{front_name}
use Rattle.reg_base.specs.Shape.{Extent}
use Rattle.reg_checkers.specs.declared.entries.Entry.{Entry}
use Rattle.reg_checkers.specs.declared.entries.Point.{Point}
use Rattle.reg_checkers.specs.Orders.{IsSerial}
use Rattle.reg_checkers.specs.Log.{Log}
use Rattle.reg_history.specs.Reports.{Contents}
use Rattle.reg_world.specs.World.{run_of}
use Rattle.reg_world.specs.Keys.{IsWitness}
use Rattle.reg_world.specs.RealTime.{KeepsUpdates}
use Rattle.reg_world.specs.Worlds.{Made, run_in, after_events}
use Rattle.reg_inputs.specs.Schedules.{Plan}
use Rattle.reg_commands.specs.declared.faults.Fault.{Fault}
use Rattle.reg_commands.specs.declared.faults.Fault.TheVariants.{OutOfMemory}
use Rattle.reg_commands.specs.Replays.{plan_in, PointsStand, IsOrdered, Shows, ShowsPoints, BlamesRun}

-- what the world tells of its run
pub record Told (start : Op → ℕ → Start) (w : Made) (history : Log) (ids : List OpId) : Type 0 where
  pub accepted : (run_in start w).accepted ≡ w.accepted
  pub shape : history.shape ≡ record { processes = w.processes; registers = w.registers }
  pub entries : history.entries ≡ (run_in start w).history
  pub order : IsWitness (run_of w.registers (run_in start w)) ids

-- the report of these parts
abbrev pub parts_of : Front → List (List ℕ) → Log → List OpId → Option (List Point) → Contents
parts_of front names history ids points = record { front = front_name front; shape = history.shape; names = names; entries = history.entries; order = ids; points = points }

-- an order of the history that a world shows is one of the history that it gives away
pub serial_given : (shown given : Log) (w : Made) (ids : List OpId)
    → shown.shape ≡ record { processes = w.processes; registers = w.registers } → shown.entries ≡ w.history
    → given.shape ≡ record { processes = w.processes; registers = w.registers } → given.entries ≡ w.history
    → IsSerial shown.shape.registers shown.entries ids → IsSerial given.shape.registers given.entries ids
serial_given shown given w ids s h t k serial =
    subst (λ (l : List Entry). IsSerial given.shape.registers l ids) (h ∙ sym k) (subst (λ (x : Extent). IsSerial x.registers shown.entries ids) (s ∙ sym t) serial)

-- and so for its real time
pub time_given : (start : Op → ℕ → Start) (shown given : Log) (w : Made) (ids : List OpId) → shown.entries ≡ w.history
    → given.entries ≡ w.history → KeepsUpdates start shown.entries ids → KeepsUpdates start given.entries ids
time_given start shown given w ids h k keeps = subst (λ (l : List Entry). KeepsUpdates start l ids) (h ∙ sym k) keeps

-- and so for points
pub points_given : (given : Log) (w : Made) (points : Option (List Point))
    → given.shape ≡ record { processes = w.processes; registers = w.registers } → given.entries ≡ w.history
    → PointsStand w.registers w.history points → PointsStand given.shape.registers given.entries points
points_given given w points t k stand =
    subst (λ (l : List Entry). PointsStand given.shape.registers l points) (sym k) (subst (λ (x : Extent). PointsStand x.registers w.history points) (sym t) stand)

one_shows : (start : Op → ℕ → Start) (front : Front) (names : List (List ℕ)) (w : Made) (history : Log)
    (ids : List OpId) (points : Option (List Point))
    → Told start w history ids → IsOrdered (parts_of front names history ids points)
    → KeepsUpdates start history.entries ids
    → Shows start (plan_in front names w) (parts_of front names history ids points)
one_shows start front names w history ids points told ordered keeps = record {
  accepted = told.accepted;
  front = refl;
  shape = told.shape;
  names = refl;
  entries = told.entries;
  order = told.order;
  ordered = ordered;
  real_time = keeps;
}

pub shows : (start : Op → ℕ → Start) (front : Front) (names : List (List ℕ)) (w : Made) (history : Log)
    (ids : List OpId) (points : Option (List Point)) (report : Contents)
    → Told start w history ids → IsOrdered (parts_of front names history ids points)
    → KeepsUpdates start history.entries ids
    → report ≡ parts_of front names history ids points → Shows start (plan_in front names w) report
shows start front names w history ids points report told ordered keeps made =
    subst (λ (x : Contents). Shows start (plan_in front names w) x) (sym made) (one_shows start front names w history ids points told ordered keeps)

pub shows_points : {E : Type 0} (start : Op → ℕ → Start) (p : Plan) (points : Option (List Point))
    (report : Result Contents E)
    → ShowsPoints start p points → IfOk report (λ r. r.points ≡ points)
    → IfOk report (λ r. ShowsPoints start p r.points)
shows_points start p points (Ok r) are same = subst (λ (x : Option (List Point)). ShowsPoints start p x) (sym same) are
shows_points start p points (Err e) are same = tt

-- a run of the events of a plan, under its front end and its names, is that plan
pub same_plan : (start : Op → ℕ → Start) (p : Plan) (front : Front) (names : List (List ℕ)) (w : Made)
    → w ≡ after_events start p.shape p.events → names ≡ p.names → front ≡ p.front → plan_in front names w ≡ p
same_plan start p front names w is same_names same_front = rw (is, same_names, same_front) refl

pub shows_same : {E : Type 0} (start : Op → ℕ → Start) (p q : Plan) (report : Result Contents E) → p ≡ q
    → IfOk report (λ r. Shows start p r) → IfOk report (λ r. Shows start q r)
shows_same start p q report same shown = subst (λ (x : Plan). IfOk report (λ r. Shows start x r)) same shown

-- want of memory blames nothing
pub memory_blames : {R : Type 0} (start : Op → ℕ → Start) (p : Plan) (report : Result R Fault)
    → IfErr report (λ f. f ≡ OutOfMemory) → IfErr report (λ f. BlamesRun start p f)
memory_blames start p (Ok r) why = tt
memory_blames start p (Err f) why = subst (BlamesRun start p) (sym why) tt
