use Rattle.reg_trace.proofs.LookedBehind.{◌▸◌, as_text}
use Rattle.reg_trace.proofs.data.text.put_between.Goals as goal

pub returns : goal.returns
returns g c = as_text c.as_bytes.ensures.value c.put.ensures ▸ ((c.put_head.ensures ▸ (c.put_run.ensures ▸ c.put_orders.ensures)) ▸ as_text c.as_bytes-2.ensures.value c.put-2.ensures)
