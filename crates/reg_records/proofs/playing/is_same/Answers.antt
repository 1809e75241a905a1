use Rattle.std.proofs.Common.{rules}
use Rattle.reg_records.proofs.playing.is_same.Goals as goal

pub returns : goal.returns
returns c = search rules
