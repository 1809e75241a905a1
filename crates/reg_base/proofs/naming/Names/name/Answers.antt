use Rattle.std.proofs.Common.{arith}
use Rattle.std.proofs.lemmas.Grind.{elements}
use Rattle.reg_base.proofs.naming.Names.name.Goals as goal

pub returns-in_err-get : goal.returns-in_err-get
returns-in_err-get g c = grind (arith, elements)

pub returns : goal.returns
returns g c = grind (arith, elements)
