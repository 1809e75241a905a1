use Rattle.std.proofs.Common.{ap, sym}
use Rattle.reg_trace.proofs.LookedBehind.{◌▸◌, as_text}
use Rattle.reg_trace.specs.Parts.{end_part}
use Rattle.reg_trace.proofs.data.parts.put_end.Goals as goal

pub returns-in-Some : goal.returns-in-Some
returns-in-Some g c = as_text (ap end_part (sym c.in-Some.is)) (c.put_number.ensures ▸ (c.put.ensures ▸ (c.put_quoted_answer.ensures ▸ c.put-in-Some.ensures)))
