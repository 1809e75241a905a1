use Rattle.reg_trace.proofs.Plain.{data_plain}
use Rattle.reg_trace.proofs.laws.data_is_plain.Goals as goal

pub returns : goal.returns
returns c = data_plain
