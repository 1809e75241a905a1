use Rattle.std.proofs.Common.{rules}
use Rattle.reg_inputs.proofs.numbers.read_numbers.Goals as goal

pub returns-in_err-repeat-clause-fault : goal.returns-in_err-repeat-clause-fault
returns-in_err-repeat-clause-fault c = search rules

pub returns-in_err-budget-clause-fault : goal.returns-in_err-budget-clause-fault
returns-in_err-budget-clause-fault c = search rules

pub returns-clause-fault : goal.returns-clause-fault
returns-clause-fault c = search rules

pub returns-clause-loss : goal.returns-clause-loss
returns-clause-loss c = search rules

pub returns-clause-budget : goal.returns-clause-budget
returns-clause-budget c = search rules
