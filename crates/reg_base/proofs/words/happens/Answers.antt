use Rattle.std.proofs.Common.{rules}
use Rattle.reg_base.proofs.words.happens.Goals as goal

pub returns-clause-value : goal.returns-clause-value
returns-clause-value g c = search rules
