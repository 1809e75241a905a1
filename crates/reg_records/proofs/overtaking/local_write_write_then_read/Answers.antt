use Rattle.reg_records.proofs.Overtaken.{unseen_write_overtaken}
use Rattle.reg_records.proofs.overtaking.local_write_write_then_read.Goals as goal

pub returns-clause-overtaken : goal.returns-clause-overtaken
returns-clause-overtaken c = unseen_write_overtaken
