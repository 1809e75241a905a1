use Rattle.reg_node.proofs.Headed.{is_left, no_log}
use Rattle.reg_node.proofs.laws.a_headless_log_never_began.Goals as goal

pub returns-clause-none : goal.returns-clause-none
returns-clause-none c = λ id bytes cluster process chapter. no_log id cluster process chapter bytes

pub returns-clause-found : goal.returns-clause-found
returns-clause-found c = λ id front shape names part left zeros good. is_left id front shape names good part left zeros
