use Rattle.reg_text.proofs.Lining.{puts_line as line_put}
use Rattle.reg_trace.specs.Traces.{holds_line}
use Rattle.reg_trace.proofs.trace_text.put_waits.Goals as goal

pub loop-wait-preserved : goal.loop-wait-preserved
loop-wait-preserved g c =
    line_put g.W.Write.contents c.args.sink.now c.loop-wait.sink c.put_wait.new.sink holds_line c.args.waits.now c.loop-wait.wait-index _ c.loop-wait-test.true c.loop-wait.invariant c.put_wait.ensures
