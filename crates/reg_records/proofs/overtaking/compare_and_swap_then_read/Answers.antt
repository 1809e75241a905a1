use Rattle.reg_records.proofs.Overtaken.{stale_after_cas_overtaken}
use Rattle.reg_records.proofs.overtaking.compare_and_swap_then_read.Goals as goal

pub returns-clause-overtaken : goal.returns-clause-overtaken
returns-clause-overtaken c = stale_after_cas_overtaken
