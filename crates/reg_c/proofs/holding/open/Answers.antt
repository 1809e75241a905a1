use Rattle.std.proofs.Common.{rules}
use Rattle.reg_c.proofs.holding.open.Goals as goal

pub returns-in-Ok-new-clause-nothing_else : goal.returns-in-Ok-new-clause-nothing_else
returns-in-Ok-new-clause-nothing_else c = search rules
