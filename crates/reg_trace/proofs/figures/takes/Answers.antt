use Rattle.std.proofs.Common.{rules}
use Rattle.reg_trace.proofs.figures.takes.Goals as goal

pub returns-then-receiver-to : goal.returns-then-receiver-to
returns-then-receiver-to g c = search rules
