use Rattle.reg_node.proofs.Journals.{text_grows}
use Rattle.reg_node.proofs.laws.a_log_grows_by_lines.Goals as goal

pub returns : goal.returns
returns c = text_grows
