use Rattle.std.proofs.Common.{arith, rules}
use Rattle.std.proofs.lemmas.Grind.{common_steps}
use Rattle.reg_live.proofs.scripts.perform_all.Goals as goal

pub loop-op-preserved : goal.loop-op-preserved
loop-op-preserved g c = grind (arith, common_steps)

pub returns : goal.returns
returns g c = grind (arith, common_steps)
