-- Why not all outcomes of a workload's scripts are written.
use Rattle.std.specs.Prelude.{◌≡◌, ◌⊎◌}
use Rattle.reg_commands.specs.declared.faults.Fault.TheVariants.{Output, OutOfMemory}
use Rattle.reg_inputs.specs.Loads.{Load}
use Rattle.reg_show.specs.OneOutcome.{IsTooWide}
use Rattle.reg_show.specs.declared.faults.ShowFault.{ShowFault}
use Rattle.reg_show.specs.declared.faults.ShowFault.TheVariants.{Command, TooManyStages}

-- the writer failed, memory was refused, or some number of turns leads to more stages than the most
abbrev pub StopsAll : Load → ShowFault → Type 0
StopsAll work fault =
    ((fault ≡ Command Output) ⊎ (fault ≡ Command OutOfMemory)) ⊎ ((fault ≡ TooManyStages) × IsTooWide work)
