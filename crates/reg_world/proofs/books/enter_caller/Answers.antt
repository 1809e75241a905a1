use Rattle.std.proofs.Common.{arith}
use Rattle.std.proofs.lemmas.Grind.{common_steps}
use Rattle.reg_world.proofs.books.enter_caller.Goals as goal

pub returns-clause-copied : goal.returns-clause-copied
returns-clause-copied g c = grind (arith, common_steps)
