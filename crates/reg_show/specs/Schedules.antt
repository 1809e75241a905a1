-- The schedule of a play.
use Rattle.std.specs.Prelude.{ℕ, ◌≡◌, ◌⊎◌, Bool, List}
use Rattle.reg_base.specs.declared.memory.Op.{Op}
use Rattle.reg_front.specs.declared.starts.Start.{Start}
use Rattle.reg_inputs.specs.Loads.{Load}
use Rattle.reg_world.specs.Worlds.{Made}
use Rattle.reg_inputs.specs.ScheduleText.{IsScheduleText, schedule_text}
use Rattle.reg_commands.specs.Plays.{IsPlayBy, plan_of}
use Rattle.reg_commands.specs.declared.faults.Fault.TheVariants.{Output, OutOfMemory}
use Rattle.reg_show.specs.declared.faults.ShowFault.{ShowFault}
use Rattle.reg_show.specs.declared.faults.ShowFault.TheVariants.{Command}

-- The schedule of the player's play of the workload was written: that of the events which it accepted, under the
-- workload's front end and names. `Wrote` says how a text was.
pub record ShowsSchedule (fair : Bool) (start : Op → ℕ → Start) (Wrote : List ℕ → Type 0) (work : Load) : Type 0 where
  pub made : Made
  pub is_finished : Bool
  pub played : IsPlayBy fair start work made is_finished
  pub schedule : IsScheduleText (plan_of work made)
  pub written : Wrote (schedule_text (plan_of work made))

-- why none is written: the writer failed, or memory was refused
abbrev pub StopsSchedule : ShowFault → Type 0
StopsSchedule fault = (fault ≡ Command Output) ⊎ (fault ≡ Command OutOfMemory)
