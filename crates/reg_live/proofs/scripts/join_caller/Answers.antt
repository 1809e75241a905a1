use Rattle.std.proofs.Common.{rules}
use Rattle.reg_live.proofs.scripts.join_caller.Goals as goal

pub returns : goal.returns
returns g c = search rules
