use Rattle.reg_records.proofs.Overtaken.{overtaking_write_overtaken}
use Rattle.reg_records.proofs.overtaking.local_write_write_then_write.Goals as goal

pub returns-clause-overtaken : goal.returns-clause-overtaken
returns-clause-overtaken c = overtaking_write_overtaken
