use Rattle.std.proofs.Common.{rules}
use Rattle.reg_c.proofs.holding.arrange.Goals as goal

pub returns-clause-right : goal.returns-clause-right
returns-clause-right c = search rules

pub returns-in_default-clause-why : goal.returns-in_default-clause-why
returns-in_default-clause-why c = search rules
