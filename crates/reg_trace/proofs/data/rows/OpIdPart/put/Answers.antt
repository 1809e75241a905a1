use Rattle.std.proofs.Common.{rules}
use Rattle.reg_trace.proofs.data.rows.OpIdPart.put.Goals as goal

pub returns : goal.returns
returns g c = search rules
