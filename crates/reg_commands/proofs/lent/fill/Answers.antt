use Rattle.std.proofs.Common.{rules}
use Rattle.reg_commands.proofs.lent.fill.Goals as goal

pub returns : goal.returns
returns c = search rules
