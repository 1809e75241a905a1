-- What the play of a workload writes.
use Rattle.std.specs.Prelude.{ℕ, ◌≡◌, ◌<◌, ◌⊎◌, Bool, true, false, List, length, Option, Some, None}
use Rattle.toml.specs.Data.{Members}
use Rattle.toml.specs.Parse.{parse_document}
use Rattle.rand_core.specs.Pcg32Seed.{pcg32_seed}
use Rattle.rand_pcg.specs.Pcg.{pcg32, pcg32_of_seed}
use Rattle.reg_base.specs.declared.memory.Op.{Op}
use Rattle.reg_front.specs.declared.starts.Start.{Start}
use Rattle.reg_checkers.specs.declared.entries.Point.{Point}
use Rattle.reg_history.specs.Reports.{Contents, report_text}
use Rattle.reg_world.specs.Worlds.{Made}
use Rattle.reg_inputs.specs.declared.faults.WorkloadFault.{WorkloadFault}
use Rattle.reg_inputs.specs.declared.faults.WorkloadFault.TheVariants.{Toml}
use Rattle.reg_inputs.specs.Loads.{Load, IsLoad, Says}
use Rattle.reg_inputs.specs.Judged.{IsFault}
use Rattle.reg_inputs.specs.Schedules.{Plan}
use Rattle.reg_workload.specs.Plays.{IsPlay}
use Rattle.reg_workload.specs.Fair.{TakesInOrder}
use Rattle.reg_workload.specs.Rounds.{fair_play}
use Rattle.reg_workload.specs.Seeded.{seeded_play}
use Rattle.reg_commands.specs.Replays.{start_of, plan_in, Shows, PointsOf}

-- the text is a document whose table says this workload
pub record Holds (text : List ℕ) (work : Load) : Type 0 where
  pub table : Members
  pub document : parse_document text ≡ Some table
  pub says : Says table work
  pub good : IsLoad work

-- the text is no document, or its table has this fault
abbrev pub RefusesDocument : List ℕ → WorkloadFault → Type 0
RefusesDocument text fault =
    ((fault ≡ Toml) × (parse_document text ≡ None))
    ⊎ ((table : Members) × (parse_document text ≡ Some table) × IsFault table fault)

-- What a player promises besides a play. A fair one takes the frames of each wire in order, each once, and is finished
-- where the budget isn't used up; without loss, a seeded one is finished there too.
abbrev pub PlaysAs : Bool → Load → Made → Bool → Type 0
PlaysAs true work made is_finished =
    TakesInOrder made.accepted × (length made.accepted < work.budget → is_finished ≡ true)
PlaysAs false work made is_finished = work.loss ≡ 0 → length made.accepted < work.budget → is_finished ≡ true

-- the one play of the workload that its player makes: the fair one, or the seeded one with the words of PCG32 from the
-- workload's seed
unfoldable pub play_made : Bool → (Op → ℕ → Start) → Load → Made
play_made true start work = (fair_play start work.shape work.scripts work.budget).made
play_made false start work =
    (seeded_play start pcg32 work.shape work.scripts work.loss work.repeat work.budget
    (pcg32_of_seed (pcg32_seed 16 work.seed))).0.made

-- The world is the play that the player makes, which is a play of the workload and has what its player promises.
pub record IsPlayBy (fair : Bool) (start : Op → ℕ → Start) (work : Load) (made : Made)
    (is_finished : Bool) : Type 0 where
  pub same : made ≡ play_made fair start work
  pub play : IsPlay start work.shape work.scripts work.budget made is_finished
  pub player : PlaysAs fair work made is_finished

-- what a play did, as a plan
abbrev pub plan_of : Load → Made → Plan
plan_of work made = plan_in work.front work.names made

-- This is the report of the player's play of the workload: its history and its witness, and points as `AreSo` says.
pub record ShowsPlay (fair : Bool) (start : Op → ℕ → Start) (work : Load) (AreSo : Plan → Option (List Point) → Type 0)
    (r : Contents) : Type 0 where
  pub made : Made
  pub is_finished : Bool
  pub played : IsPlayBy fair start work made is_finished
  pub shows : Shows start (plan_of work made) r
  pub points : AreSo (plan_of work made) r.points

-- the report of the player's play of the workload, with points where the workload's front end has some
abbrev pub IsReportOfPlay : Bool → Load → Contents → Type 0
IsReportOfPlay fair work r = ShowsPlay fair (start_of work.front) work (PointsOf work.front) r

-- The text is a document that says a workload, and the report of the player's play of it was written: `Wrote` says how
-- a text was written.
pub record Plays (fair : Bool) (Wrote : List ℕ → Type 0) (text : List ℕ) : Type 0 where
  pub work : Load
  pub holds : Holds text work
  pub report : Contents
  pub shown : IsReportOfPlay fair work report
  pub written : Wrote (report_text report)
