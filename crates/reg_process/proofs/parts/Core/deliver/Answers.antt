use Rattle.std.proofs.Common.{rules, arith}
use Rattle.std.proofs.lemmas.Grind.{common_steps}
use Rattle.reg_process.proofs.parts.Core.deliver.Goals as goal

pub returns : goal.returns
returns g c = search rules

pub loop-cast-preserved : goal.loop-cast-preserved
loop-cast-preserved g c = grind (arith, common_steps)
