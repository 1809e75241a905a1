use Rattle.std.proofs.Common.{arith}
use Rattle.std.proofs.lemmas.Grind.{common_steps}
use Rattle.reg_world.proofs.packed.Tables.keeps.Goals as goal

pub returns-then-place-len-clause-body : goal.returns-then-place-len-clause-body
returns-then-place-len-clause-body g c = grind (arith, common_steps)
