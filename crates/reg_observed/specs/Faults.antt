-- How a fault of a report is told. It carries a proof: no promise speaks of it.
use Rattle.reg_observed.specs.declared.command.CommandFault.{CommandFault}
use Rattle.reg_observed.specs.declared.command.CommandFault.TheVariants.{Command, Rule}
use Rattle.reg_judge.specs.declared.rulings.faults.RulingFault.{RulingFault}
use Rattle.reg_judge.specs.declared.rulings.faults.RulingFault.TheVariants as rulings

abbrev pub of_ruling : RulingFault → CommandFault
of_ruling (rulings.Command fault) = Command fault
of_ruling (rulings.Rule fault) = Rule fault
