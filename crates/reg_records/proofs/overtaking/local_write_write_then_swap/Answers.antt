use Rattle.reg_records.proofs.Overtaken.{overtaking_swap_overtaken}
use Rattle.reg_records.proofs.overtaking.local_write_write_then_swap.Goals as goal

pub returns-clause-overtaken : goal.returns-clause-overtaken
returns-clause-overtaken c = overtaking_swap_overtaken
