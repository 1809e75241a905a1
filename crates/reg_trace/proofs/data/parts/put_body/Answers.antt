use Rattle.std.proofs.Common.{ap, sym}
use Rattle.reg_trace.proofs.LookedBehind.{◌▸◌, as_text}
use Rattle.reg_trace.specs.Parts.{body_part}
use Rattle.reg_trace.proofs.data.parts.put_body.Goals as goal

pub returns-in-Cast : goal.returns-in-Cast
returns-in-Cast g c =
    as_text (ap (body_part c.args.names.now c.args.number) (sym c.in-Cast.is))
    (c.put_number.ensures ▸ (c.put_number-in-Cast.ensures ▸ (c.put.ensures ▸ (c.put_quoted_op.ensures ▸ c.put-in-Cast.ensures))))

pub returns-in-Ack : goal.returns-in-Ack
returns-in-Ack g c =
    as_text (ap (body_part c.args.names.now c.args.number) (sym c.in-Ack.is))
    (c.put_number-in-Ack.ensures ▸ (c.put_number-in-Ack-2.ensures ▸ c.put-in-Ack.ensures))
