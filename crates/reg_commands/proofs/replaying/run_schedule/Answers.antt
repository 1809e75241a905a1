use Rattle.std.proofs.Common.{rules}
use Rattle.reg_commands.proofs.replaying.run_schedule.Goals as goal

pub returns-in-LocalRead-by_front-clause-ok : goal.returns-in-LocalRead-by_front-clause-ok
returns-in-LocalRead-by_front-clause-ok g c = search rules

pub returns-in-LocalRead-by_front-clause-why : goal.returns-in-LocalRead-by_front-clause-why
returns-in-LocalRead-by_front-clause-why g c = search rules
