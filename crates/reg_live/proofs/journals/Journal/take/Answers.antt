use Rattle.std.proofs.Common.{rules}
use Rattle.reg_live.proofs.journals.Journal.take.Goals as goal

pub returns-clause-all : goal.returns-clause-all
returns-clause-all g c = search rules
