use Rattle.std.proofs.Common.{ap, sym}
use Rattle.reg_trace.proofs.LookedBehind.{◌▸◌, as_text}
use Rattle.reg_trace.specs.Parts.{frame_part}
use Rattle.reg_trace.proofs.data.parts.put_frame.Goals as goal

pub returns-in-Got : goal.returns-in-Got
returns-in-Got g c = as_text (ap (frame_part c.args.names.now) (sym c.in-Got.is)) (c.put_number.ensures ▸ c.put.ensures)
