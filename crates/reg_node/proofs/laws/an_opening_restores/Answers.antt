use Rattle.reg_node.proofs.Restoring.{opening_restores}
use Rattle.reg_node.proofs.laws.an_opening_restores.Goals as goal

pub returns : goal.returns
returns c = opening_restores
