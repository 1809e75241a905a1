use Rattle.reg_node.proofs.Crashing.{given_at}
use Rattle.reg_node.proofs.laws.only_durable_goes_out.Goals as goal

pub returns : goal.returns
returns c = given_at
