use Rattle.reg_trace.proofs.LookedBehind.{◌▸◌}
use Rattle.reg_trace.proofs.data.parts.SentPart.put.Goals as goal

pub returns : goal.returns
returns g c =
    c.put_number.ensures ▸ (c.put_number-2.ensures ▸ (c.put.ensures ▸ (c.put_frame.ensures ▸ c.put-2.ensures)))
