-- The schedule of a run with one of the outcomes of a workload's scripts.
use Rattle.std.specs.Prelude.{ℕ, ◌≡◌, ◌-◌, ◌<◌, ◌⊎◌, List, length}
use Rattle.reg_base.specs.declared.memory.Op.{Op}
use Rattle.reg_front.specs.declared.starts.Start.{Start}
use Rattle.reg_checkers.specs.History.{IsAt}
use Rattle.reg_commands.specs.Plays.{plan_of}
use Rattle.reg_commands.specs.declared.faults.Fault.TheVariants.{Output, OutOfMemory}
use Rattle.reg_inputs.specs.Loads.{Load}
use Rattle.reg_inputs.specs.ScheduleText.{IsScheduleText, schedule_text}
use Rattle.reg_outcomes.specs.Finishing.{HasRoom}
use Rattle.reg_outcomes.specs.Interleavings.{AreAll, Interleaving, IsWider}
use Rattle.reg_outcomes.specs.Showing.{IsRunOf}
use Rattle.reg_outcomes.specs.declared.interleavings.outcomes.TheConstants.{MOST_STAGES}
use Rattle.reg_show.specs.declared.faults.ShowFault.{ShowFault}
use Rattle.reg_show.specs.declared.faults.ShowFault.TheVariants.{Command, NoSuchOutcome, TooManyEvents, TooManyStages}
use Rattle.reg_world.specs.Worlds.{Made}

-- The schedule of a run that has this outcome of the workload's scripts was written, under the workload's names and
-- front end. `Wrote` says how a text was.
pub record SendsRun (start : Op → ℕ → Start) (Wrote : List ℕ → Type 0) (work : Load)
    (outcome : Interleaving) : Type 0 where
  pub made : Made
  pub run : IsRunOf start work.scripts work.shape.registers outcome made
  pub schedule : IsScheduleText (plan_of work made)
  pub written : Wrote (schedule_text (plan_of work made))

-- The outcome is the one of this number among all of the workload's scripts, in their order and counted from 1.
pub record ShowsOutcome (number : ℕ) (start : Op → ℕ → Start) (Wrote : List ℕ → Type 0) (work : Load) : Type 0 where
  pub found : List Interleaving
  pub all : AreAll work.scripts work.shape.registers found
  pub outcome : Interleaving
  pub here : IsAt found (number - 1) outcome
  pub sent : SendsRun start Wrote work outcome

-- memory was refused, or this doesn't hold, and a run has no room
abbrev pub Lacks : Type 0 → ShowFault → Type 0
Lacks Room (Command fault) = fault ≡ OutOfMemory
Lacks Room TooManyEvents = ¬ Room
Lacks Room _ = ⊥

-- some number of turns leads to more stages than the most
abbrev pub IsTooWide : Load → Type 0
IsTooWide work = IsWider work.scripts work.shape.registers MOST_STAGES

-- all outcomes are fewer than so many
abbrev pub HasFewer : ℕ → Load → Type 0
HasFewer number work =
    (found : List Interleaving) × AreAll work.scripts work.shape.registers found × (length found < number)

-- why no schedule of a run with the outcome of this number is written
abbrev pub StopsOutcome : ℕ → Load → ShowFault → Type 0
StopsOutcome number work (Command fault) = (fault ≡ Output) ⊎ (fault ≡ OutOfMemory)
StopsOutcome number work TooManyStages = IsTooWide work
StopsOutcome number work NoSuchOutcome = HasFewer number work
StopsOutcome number work TooManyEvents = ¬ HasRoom work.scripts
StopsOutcome number work _ = ⊥
