use Rattle.std.proofs.Common.{rules}
use Rattle.reg_base.proofs.chains.Chains.add.Goals as goal

pub returns-clause-earlier : goal.returns-clause-earlier
returns-clause-earlier c = search rules
