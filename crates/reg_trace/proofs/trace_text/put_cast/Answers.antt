use Rattle.std.proofs.Common.{codes}
use Rattle.reg_text.specs.Ops.{op_text}
use Rattle.reg_trace.specs.Traces.{stamp_text}
use Rattle.reg_text.proofs.Sent.{puts_three}
use Rattle.reg_trace.proofs.trace_text.put_cast.Goals as goal

pub returns : goal.returns
returns g c =
    puts_three g.W.Write.contents c.args.sink.now c.put_stamp.new.sink c.put.new.self c.put_op.new.sink (stamp_text c.args.cast.stamp) (codes " ") (op_text c.args.names.now c.args.cast.op)
    c.put_stamp.ensures c.put.ensures c.put_op.ensures
