use Rattle.reg_outcomes.proofs.Answering.{used_where_answered}
use Rattle.reg_outcomes.proofs.laws.used_up_where_answered.Goals as goal

pub returns : goal.returns
returns c = used_where_answered
