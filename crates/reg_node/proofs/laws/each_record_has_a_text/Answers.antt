use Rattle.reg_node.proofs.Written.{written}
use Rattle.reg_node.proofs.laws.each_record_has_a_text.Goals as goal

pub returns : goal.returns
returns c = written
