-- The table of many plays of a workload. To be believed: promises speak of it.
use Rattle.std.specs.Prelude.{ℕ, ◌≡◌, ◌↔◌, ◌+◌, ◌<◌, ◌≤◌, ◌%◌, ◌^◌, true, List, length, Option, Some, None}
use Rattle.rand_core.specs.Pcg32Seed.{pcg32_seed}
use Rattle.rand_pcg.specs.Pcg.{pcg32, pcg32_of_seed}
use Rattle.reg_base.specs.declared.memory.Op.{Op}
use Rattle.reg_base.specs.declared.memory.OpId.{OpId}
use Rattle.reg_front.specs.declared.starts.Start.{Start}
use Rattle.reg_checkers.specs.declared.entries.Entry.{Entry}
use Rattle.reg_checkers.specs.declared.entries.Point.{Point}
use Rattle.reg_checkers.specs.History.{IsAt}
use Rattle.reg_checkers.specs.Orders.{IsPointOrder}
use Rattle.reg_inputs.specs.Loads.{Load}
use Rattle.reg_workload.specs.Plays.{IsPlay}
use Rattle.reg_workload.specs.Seeded.{seeded_play}
use Rattle.reg_world.specs.Keys.{IsWitness}
use Rattle.reg_world.specs.RealTime.{KeepsRealTime}
use Rattle.reg_world.specs.World.{run_of}
use Rattle.reg_world.specs.Worlds.{Made, run_in}
use Rattle.reg_outcomes.specs.declared.faults.InterleavingFault.{InterleavingFault}
use Rattle.reg_outcomes.specs.declared.faults.InterleavingFault.TheVariants.{TooManyStages, OutOfMemory}
use Rattle.reg_outcomes.specs.declared.orders.kinds.OrderKind.TheVariants.{Points}
use Rattle.reg_outcomes.specs.declared.interleavings.outcomes.TheConstants.{MOST_STAGES}
use Rattle.reg_outcomes.specs.Finding.{IsWiderSearch}
use Rattle.reg_outcomes.specs.Finishing.{AllAnswered}
use Rattle.reg_outcomes.specs.Interleavings.{AreAll, CountsStages, HasMoreStages, Interleaving}
use Rattle.reg_outcomes.specs.Told.{outcome_of}
use Rattle.reg_outcomes.specs.declared.tables.undrawn.TheConstants.{MOST_COUNTED_STAGES}
use Rattle.reg_outcomes.specs.PlayTables.{AreThose, CountsUnfinished, HasOutcome, IsTable, Line, Seen}

-- the play of a workload by the words of PCG32 from this seed
unfoldable pub play_from : (Op → ℕ → Start) → Load → ℕ → Made
play_from start work seed =
    (seeded_play start pcg32 work.shape work.scripts work.loss work.repeat work.budget
    (pcg32_of_seed (pcg32_seed 16 seed))).0.made

-- the history has a point order (linearizability, Herlihy and Wing 1990)
abbrev pub IsLinearizable : ℕ → List Entry → Type 0
IsLinearizable registers h = (points : List Point) × IsPointOrder registers h points

-- What is known of the play from this seed: whether it is finished, which it is where each operation of the scripts is
-- answered; the number of its events; its outcome; and where it is finished whether it is linearizable.
pub record IsSeen (start : Op → ℕ → Start) (work : Load) (seed : ℕ) (s : Seen) : Type 0 where
  pub seeded : s.seed ≡ seed
  pub finished : IsPlay start work.shape work.scripts work.budget (play_from start work seed) s.is_finished
  pub answered : (s.is_finished ≡ true) ↔ AllAnswered work.scripts (play_from start work seed).history
  pub events : s.events ≡ length (play_from start work seed).accepted
  pub outcome : s.outcome ≡ outcome_of work.shape.processes (play_from start work seed).history
  pub time : s.is_finished ≡ true
      → (s.linearizable ≡ true) ↔ IsLinearizable work.shape.registers (play_from start work seed).history

-- the seed of the k-th play, from 0: the seeds of a workload's plays follow its own, modulo 2^64
abbrev pub seed_at : Load → ℕ → ℕ
seed_at work k = (work.seed + k) % 2 ^ 64

-- what is known of the given number of plays of a workload, in their order
pub record AreSeen (start : Op → ℕ → Start) (work : Load) (plays : ℕ) (seen : List Seen) : Type 0 where
  pub count : length seen ≡ plays
  pub each : (k : ℕ) (s : Seen) → IsAt seen k s → IsSeen start work (seed_at work k) s

-- some finished play had this outcome
abbrev pub WasDrawn : List Seen → Interleaving → Type 0
WasDrawn plays i = (k : ℕ) × (s : Seen) × IsAt plays k s × HasOutcome i.told s

-- this is the number of these outcomes that no finished play had
abbrev pub CountsUndrawn : List Seen → List Interleaving → ℕ → Type 0
CountsUndrawn plays found n =
    (those : List Interleaving) × AreThose (λ i. ¬ WasDrawn plays i) found those × (n ≡ length those)

-- How many of all outcomes of the scripts no finished play had, where their interleavings go through no more stages
-- than the most that are counted; and None where they go through more.
abbrev pub TellsUndrawn : List (List Op) → ℕ → List Seen → Option ℕ → Type 0
TellsUndrawn scripts registers plays None = HasMoreStages scripts registers MOST_COUNTED_STAGES
TellsUndrawn scripts registers plays (Some n) =
    (stages : ℕ) × CountsStages scripts registers stages × (stages ≤ MOST_COUNTED_STAGES) × (found : List Interleaving)
    × AreAll scripts registers found × CountsUndrawn plays found n

-- the lines of the table of the given number of plays, the number of unfinished plays, and that of the outcomes that no
-- play had
pub record AreOutcomes (start : Op → ℕ → Start) (work : Load) (plays : ℕ) (lines : List Line) (unfinished : ℕ)
    (undrawn : Option ℕ) : Type 0 where
  pub seen : List Seen
  pub known : AreSeen start work plays seen
  pub table : IsTable seen lines
  pub rest : CountsUnfinished seen unfinished
  pub left : TellsUndrawn work.scripts work.shape.registers seen undrawn

-- the witness of a run doesn't keep the real time
abbrev pub HasLateWitness : (Op → ℕ → Start) → Made → Type 0
HasLateWitness start made =
    (ids : List OpId) × IsWitness (run_of made.registers (run_in start made)) ids × ¬ KeepsRealTime made.history ids

-- The play from this seed is finished, its witness doesn't keep the real time, and some number of its operations,
-- placed in search of a point order, leads to more stages than the most.
pub record IsWiderPlay (start : Op → ℕ → Start) (work : Load) (seed : ℕ) : Type 0 where
  pub finished : IsPlay start work.shape work.scripts work.budget (play_from start work seed) true
  pub late : HasLateWitness start (play_from start work seed)
  pub wider : IsWiderSearch Points work.shape.processes work.shape.registers (play_from start work seed).history
      MOST_STAGES

-- why the play from this seed is not counted, and why the given number of plays is not
abbrev pub IsPlayFault : (Op → ℕ → Start) → Load → ℕ → InterleavingFault → Type 0
IsPlayFault start work seed TooManyStages = IsWiderPlay start work seed
IsPlayFault start work seed OutOfMemory = Unit {0}

abbrev pub IsPlaysFault : (Op → ℕ → Start) → Load → ℕ → InterleavingFault → Type 0
IsPlaysFault start work plays TooManyStages = (k : ℕ) × (k < plays) × IsWiderPlay start work (seed_at work k)
IsPlaysFault start work plays OutOfMemory = Unit {0}
