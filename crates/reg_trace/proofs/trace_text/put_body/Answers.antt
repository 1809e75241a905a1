use Rattle.std.proofs.Common.{◌++◌, codes, ap, sym}
use Rattle.reg_base.specs.declared.stamps.Stamp.{Stamp}
use Rattle.reg_base.specs.declared.stamps.Delivered.{Delivered}
use Rattle.reg_text.proofs.Sent.{puts_two, puts_as}
use Rattle.reg_trace.specs.Traces.{body_text, cast_text, stamp_text}
use Rattle.reg_trace.proofs.trace_text.put_body.Goals as goal

pub returns-in-Cast : goal.returns-in-Cast
returns-in-Cast g c =
    let held = g.W.Write.contents in
    let names = c.args.names.now in
    let cast : Delivered = record { stamp = record { time = c.in-Cast.time; process = c.args.process }; op = c.in-Cast.op } in
    puts_as held c.args.sink.now c.put_cast.new.sink (codes "cast " ++ cast_text names cast) (body_text names c.args.process c.args.body) (ap (body_text names c.args.process) (sym c.in-Cast.is))
    (puts_two held c.args.sink.now c.put.new.self c.put_cast.new.sink (codes "cast ") (cast_text names cast) c.put.ensures c.put_cast.ensures)

pub returns-in-Ack : goal.returns-in-Ack
returns-in-Ack g c =
    let held = g.W.Write.contents in
    let names = c.args.names.now in
    let stamp : Stamp = record { time = c.in-Ack.time; process = c.args.process } in
    puts_as held c.args.sink.now c.put_stamp.new.sink (codes "acknowledgement " ++ stamp_text stamp) (body_text names c.args.process c.args.body) (ap (body_text names c.args.process) (sym c.in-Ack.is))
    (puts_two held c.args.sink.now c.put-in-Ack.new.self c.put_stamp.new.sink (codes "acknowledgement ") (stamp_text stamp) c.put-in-Ack.ensures c.put_stamp.ensures)
