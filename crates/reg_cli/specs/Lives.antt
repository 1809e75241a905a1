-- What is written once threads have performed the scripts of a workload.
use Rattle.std.specs.Prelude.{ℕ, ◌≡◌, Bool, List, map, Option}
use Rattle.reg_base.specs.declared.memory.Op.{Op}
use Rattle.reg_front.specs.declared.starts.Start.{Start}
use Rattle.reg_checkers.specs.declared.entries.Point.{Point}
use Rattle.reg_history.specs.Reports.{Contents, report_text}
use Rattle.reg_world.specs.Worlds.{Made}
use Rattle.reg_inputs.specs.Loads.{Load}
use Rattle.reg_inputs.specs.Schedules.{Plan}
use Rattle.reg_records.specs.declared.entries.Receipt.{Receipt}
use Rattle.reg_live.specs.Passes.{IsLived}
use Rattle.reg_live.specs.Scripts.{ops_of}
use Rattle.reg_commands.specs.Replays.{start_of, Shows, PointsOf}
use Rattle.reg_commands.specs.declared.command.Command.TheVariants.{Play}
use Rattle.reg_commands.specs.Answers.{Blames}
use Rattle.reg_commands.specs.Plays.{Holds, plan_of}
use Rattle.reg_cli.specs.declared.stops.Stop.{Stop}
use Rattle.reg_cli.specs.declared.stops.Stop.TheVariants.{Command}

-- Threads made a run of the workload's shape, of which each process's finished operations are just those that its
-- thread was answered. These are the operations of its script, all of them in order. And this is the run's report: its
-- history and its witness, and points as `AreSo` says.
pub record ShowsLive (start : Op → ℕ → Start) (work : Load) (AreSo : Plan → Option (List Point) → Type 0)
    (r : Contents) : Type 0 where
  pub made : Made
  pub answered : List (List Receipt)
  pub lived : IsLived start work.shape answered made
  pub performed : map ops_of answered ≡ work.scripts
  pub shows : Shows start (plan_of work made) r
  pub points : AreSo (plan_of work made) r.points

-- the report of what threads made of a workload, with points where its front end has some
abbrev pub IsReportOfLive : Load → Contents → Type 0
IsReportOfLive work r = ShowsLive (start_of work.front) work (PointsOf work.front) r

-- The text is a document that says a workload, and the report of what threads made of it was written: `Wrote` says how
-- a text was written.
pub record Lives (Wrote : List ℕ → Type 0) (text : List ℕ) : Type 0 where
  pub work : Load
  pub holds : Holds text work
  pub report : Contents
  pub shown : IsReportOfLive work report
  pub written : Wrote (report_text report)

-- What a stop says of the input: the same as where a play isn't made. A stop of threads is told only where the text
-- says a workload.
abbrev pub BlamesStop : Stop → List ℕ → Type 0
BlamesStop (Command fault) text = (fair : Bool) → Blames (Play fair) fault text
BlamesStop stop text = (work : Load) × Holds text work
