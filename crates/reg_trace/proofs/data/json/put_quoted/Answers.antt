use Rattle.reg_trace.proofs.LookedBehind.{◌▸◌, as_text}
use Rattle.reg_trace.proofs.data.json.put_quoted.Goals as goal

pub returns : goal.returns
returns g c = c.put.ensures ▸ (as_text c.as_bytes.ensures.value c.put-2.ensures ▸ c.put-3.ensures)
