use Rattle.std.proofs.Common.{rules}
use Rattle.reg_cli.proofs.performing.perform.Goals as goal

pub returns-in-LocalRead-by_front-clause-shows : goal.returns-in-LocalRead-by_front-clause-shows
returns-in-LocalRead-by_front-clause-shows g c = search rules
