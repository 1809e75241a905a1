use Rattle.std.proofs.Common.{rules}
use Rattle.reg_commands.proofs.verdicts.reason_of.Goals as goal

pub returns-in-Twice : goal.returns-in-Twice
returns-in-Twice c = search rules

pub returns-in-OutOfMemory : goal.returns-in-OutOfMemory
returns-in-OutOfMemory c = search rules
