use Rattle.reg_trace.proofs.LookedBehind.{◌▸◌}
use Rattle.reg_trace.proofs.data.parts.put_quoted_op.Goals as goal

pub returns : goal.returns
returns g c = c.put.ensures ▸ (c.put_op.ensures ▸ c.put-2.ensures)
