use Rattle.reg_records.proofs.Overtaken.{stale_read_overtaken}
use Rattle.reg_records.proofs.overtaking.local_read_write_then_read.Goals as goal

pub returns-clause-overtaken : goal.returns-clause-overtaken
returns-clause-overtaken c = stale_read_overtaken
