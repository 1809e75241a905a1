use Rattle.std.proofs.Common.{ap, sym}
use Rattle.reg_trace.proofs.LookedBehind.{◌▸◌, as_text}
use Rattle.reg_trace.specs.Parts.{reply_part}
use Rattle.reg_trace.proofs.data.parts.put_reply.Goals as goal

pub returns-in-Some : goal.returns-in-Some
returns-in-Some g c = as_text (ap reply_part (sym c.in-Some.is)) (c.put.ensures ▸ (c.put_quoted_answer.ensures ▸ (c.put_number.ensures ▸ c.put-in-Some.ensures)))
