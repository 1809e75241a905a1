use Rattle.std.proofs.Common.{rules}
use Rattle.reg_show_cli.proofs.program.print.Goals as goal

pub returns-clause-told : goal.returns-clause-told
returns-clause-told g c = search rules
