use Rattle.std.proofs.Common.{rules}
use Rattle.reg_c.proofs.holding.close.Goals as goal

pub returns : goal.returns
returns c = search rules
