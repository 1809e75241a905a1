-- The table of a workload's plays.
use Rattle.std.specs.Prelude.{ℕ, ◌≡◌, ◌⊎◌, ◌<◌, List, Option}
use Rattle.reg_base.specs.declared.memory.Op.{Op}
use Rattle.reg_commands.specs.declared.faults.Fault.TheVariants.{Output, OutOfMemory}
use Rattle.reg_front.specs.declared.starts.Start.{Start}
use Rattle.reg_outcomes.specs.Outcomes.{AreOutcomes, IsWiderPlay, seed_at}
use Rattle.reg_outcomes.specs.PlayTables.{Line}
use Rattle.reg_outcomes.specs.TableText.{table_text}
use Rattle.reg_inputs.specs.Loads.{Load}
use Rattle.reg_show.specs.declared.faults.ShowFault.{ShowFault}
use Rattle.reg_show.specs.declared.faults.ShowFault.TheVariants.{Command, TooManyStages}

-- The text of the table of so many plays of the workload was written. `Wrote` says how a text was.
pub record ShowsOutcomes (plays : ℕ) (start : Op → ℕ → Start) (Wrote : List ℕ → Type 0) (work : Load) : Type 0 where
  pub lines : List Line
  pub unfinished : ℕ
  pub undrawn : Option ℕ
  pub told : AreOutcomes start work plays lines unfinished undrawn
  pub written : Wrote (table_text plays lines unfinished undrawn)

-- one of so many plays is finished, and the search for a point order of its history is too wide
abbrev pub HasWiderPlay : ℕ → (Op → ℕ → Start) → Load → Type 0
HasWiderPlay plays start work = (k : ℕ) × (k < plays) × IsWiderPlay start work (seed_at work k)

-- why no table of a workload's plays is written
abbrev pub StopsPlays : ℕ → (Op → ℕ → Start) → Load → ShowFault → Type 0
StopsPlays plays start work (Command fault) = (fault ≡ Output) ⊎ (fault ≡ OutOfMemory)
StopsPlays plays start work TooManyStages = HasWiderPlay plays start work
StopsPlays plays start work _ = ⊥
