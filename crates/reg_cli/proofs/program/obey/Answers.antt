use Rattle.std.proofs.Common.{rules}
use Rattle.reg_cli.proofs.program.obey.Goals as goal

pub returns-in-Live-clause-obeyed : goal.returns-in-Live-clause-obeyed
returns-in-Live-clause-obeyed g c = search rules

pub returns-in-Live-clause-stopped : goal.returns-in-Live-clause-stopped
returns-in-Live-clause-stopped g c = search rules
