use Rattle.reg_node.proofs.Steps.{no_log}
use Rattle.reg_node.proofs.laws.fault_is_no_log.Goals as goal

pub returns : goal.returns
returns c = no_log
