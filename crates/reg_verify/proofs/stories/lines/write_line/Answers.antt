use Rattle.std.proofs.Common.{rules}
use Rattle.reg_verify.proofs.stories.lines.write_line.Goals as goal

pub returns-then-sink : goal.returns-then-sink
returns-then-sink g c = search rules
