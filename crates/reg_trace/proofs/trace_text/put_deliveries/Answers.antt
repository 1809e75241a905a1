use Rattle.reg_trace.specs.Traces.{delivers_lines}
use Rattle.reg_trace.proofs.Tracing.{block_put}
use Rattle.reg_trace.proofs.trace_text.put_deliveries.Goals as goal

pub loop-delivery-preserved : goal.loop-delivery-preserved
loop-delivery-preserved g c =
    block_put g.W.Write.contents c.args.sink.now c.loop-delivery.sink c.put_delivered.new.sink (delivers_lines c.args.names.now) c.args.deliveries.now c.loop-delivery.delivery-index _ c.loop-delivery-test.true c.loop-delivery.invariant c.put_delivered.ensures
