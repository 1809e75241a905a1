use Rattle.std.proofs.Common.{arith}
use Rattle.std.proofs.lemmas.Grind.{elements}
use Rattle.reg_commands.proofs.fault_lines.put_fault_text.Goals as goal

pub returns-in-Unread : goal.returns-in-Unread
returns-in-Unread g c = grind (arith, elements)

pub returns-in-TooLong : goal.returns-in-TooLong
returns-in-TooLong g c = grind (arith, elements)

pub returns-in-NotText : goal.returns-in-NotText
returns-in-NotText g c = grind (arith, elements)

pub returns-in-Output : goal.returns-in-Output
returns-in-Output g c = grind (arith, elements)

pub returns-in-OutOfMemory : goal.returns-in-OutOfMemory
returns-in-OutOfMemory g c = grind (arith, elements)
