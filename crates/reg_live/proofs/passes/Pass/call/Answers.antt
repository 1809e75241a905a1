use Rattle.std.proofs.Common.{rules}
use Rattle.reg_live.proofs.passes.Pass.call.Goals as goal

pub returns-clause-own : goal.returns-clause-own
returns-clause-own g c = search rules
