use Rattle.std.proofs.Common.{rules}
use Rattle.reg_live.proofs.phases.is_last.Goals as goal

pub returns : goal.returns
returns c = search rules
