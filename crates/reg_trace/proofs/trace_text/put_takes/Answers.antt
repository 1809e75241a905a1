use Rattle.std.proofs.Common.{rules}
use Rattle.reg_trace.proofs.trace_text.put_takes.Goals as goal

pub returns-in-Take : goal.returns-in-Take
returns-in-Take g c = search rules
