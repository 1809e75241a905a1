use Rattle.reg_records.proofs.Overtaken.{new_then_old_at_once_overtaken}
use Rattle.reg_records.proofs.overtaking.local_write_read_then_read.Goals as goal

pub returns-clause-overtaken : goal.returns-clause-overtaken
returns-clause-overtaken c = new_then_old_at_once_overtaken
