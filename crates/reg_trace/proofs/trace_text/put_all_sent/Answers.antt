use Rattle.reg_text.proofs.Lining.{puts_line as line_put}
use Rattle.reg_trace.specs.Traces.{puts_line}
use Rattle.reg_trace.proofs.trace_text.put_all_sent.Goals as goal

pub loop-sent-preserved : goal.loop-sent-preserved
loop-sent-preserved g c =
    line_put g.W.Write.contents c.args.sink.now c.loop-sent.sink c.put_sent.new.sink (puts_line c.args.names.now c.args.from) c.args.all.now c.loop-sent.sent-index _ c.loop-sent-test.true c.loop-sent.invariant c.put_sent.ensures
