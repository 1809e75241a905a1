use Rattle.std.proofs.Common.{arith}
use Rattle.std.proofs.lemmas.Grind.{common_steps}
use Rattle.reg_reasons.proofs.refusals.operations_of.Goals as goal

pub loop-script-preserved : goal.loop-script-preserved
loop-script-preserved g c = grind (arith, common_steps)
