-- The data of the run of a schedule.
use Rattle.std.specs.Prelude.{ℕ, ◌<◌, ◌≤◌, List, ◌++◌, length, Option}
use Rattle.reg_base.specs.declared.memory.Op.{Op}
use Rattle.reg_commands.specs.Replays.{start_of, PointsOf}
use Rattle.reg_trace.specs.Data.{Data, IsDataOf, data_text}
use Rattle.reg_front.specs.declared.starts.Start.{Start}
use Rattle.reg_checkers.specs.declared.entries.Point.{Point}
use Rattle.reg_trace.specs.Notes.{Notes}
use Rattle.reg_inputs.specs.Schedules.{Plan}
use Rattle.reg_show.specs.Runs.{StopsRun}
use Rattle.reg_show.specs.declared.faults.ShowFault.{ShowFault}
use Rattle.reg_show.specs.declared.faults.ShowFault.TheVariants.{Command, TooManyToDraw}
use Rattle.reg_show.specs.declared.paging.TheConstants.{MOST_TOLD}

-- All events of a plan are accepted, and this is all that is told of their run, with these notes and with such points.
pub record HasData (start : Op → ℕ → Start) (p : Plan) (notes : Notes) (ArePoints : Option (List Point) → Type 0)
    (d : Data) : Type 0 where
  pub points : Option (List Point)
  pub pointed : ArePoints points
  pub told : IsDataOf start p notes points d

-- The plan has no more events than data can have, all of them accepted, and the data of its run, with these notes, was
-- written between these two texts: `Wrote` says how a text was.
pub record ShowsData (head tail : List ℕ) (notes : Notes) (Wrote : List ℕ → Type 0) (p : Plan) : Type 0 where
  pub few : length p.events ≤ MOST_TOLD
  pub data_in : Data
  pub has : HasData (start_of p.front) p notes (PointsOf p.front p) data_in
  pub written : Wrote (head ++ (data_text data_in ++ tail))

-- why the data of a plan's run is not written, where operations start so
abbrev pub StopsTold : (Op → ℕ → Start) → Plan → ShowFault → Type 0
StopsTold start p (Command fault) = StopsRun start p fault
StopsTold start p TooManyToDraw = MOST_TOLD < length p.events
StopsTold start p _ = ⊥
