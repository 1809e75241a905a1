use Rattle.std.proofs.Common.{rules}
use Rattle.reg_c.proofs.holding.look.Goals as goal

pub returns-in-Some-clause-value : goal.returns-in-Some-clause-value
returns-in-Some-clause-value c = search rules
