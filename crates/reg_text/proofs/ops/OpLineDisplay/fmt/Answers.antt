use Rattle.std.proofs.Common.{arith}
use Rattle.std.proofs.lemmas.Grind.{common_steps}
use Rattle.reg_text.proofs.ops.OpLineDisplay.fmt.Goals as goal

pub returns-in-Swap-clause-writes : goal.returns-in-Swap-clause-writes
returns-in-Swap-clause-writes g c = grind (arith, common_steps)

pub returns-in-Write-clause-writes : goal.returns-in-Write-clause-writes
returns-in-Write-clause-writes g c = grind (arith, common_steps)
