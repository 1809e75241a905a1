use Rattle.std.proofs.Common.{rules}
use Rattle.reg_commands.proofs.verdicts.write_lines.Goals as goal

pub returns-then-sink : goal.returns-then-sink
returns-then-sink g c = search rules
