use Rattle.std.proofs.Common.{rules}
use Rattle.reg_commands.proofs.kinds.kind_of_line.Goals as goal

pub returns-then-starts_with-2 : goal.returns-then-starts_with-2
returns-then-starts_with-2 c = search rules

pub returns : goal.returns
returns c = search rules
