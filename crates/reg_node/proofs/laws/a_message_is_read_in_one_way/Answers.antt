use Rattle.reg_node.proofs.Starts.{message_again}
use Rattle.reg_node.proofs.laws.a_message_is_read_in_one_way.Goals as goal

pub returns : goal.returns
returns c = message_again
