use Rattle.std.proofs.Common.{rules}
use Rattle.reg_live.proofs.passes.Pass.read.Goals as goal

pub returns-clause-answered : goal.returns-clause-answered
returns-clause-answered g c = search rules
