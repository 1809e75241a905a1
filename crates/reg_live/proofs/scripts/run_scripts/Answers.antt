use Rattle.std.proofs.Common.{rules}
use Rattle.reg_live.proofs.scripts.run_scripts.Goals as goal

pub returns-clause-lived : goal.returns-clause-lived
returns-clause-lived g c = search rules

pub returns-clause-performed : goal.returns-clause-performed
returns-clause-performed g c = search rules
