use Rattle.std.proofs.Common.{get_or, ap}
use Rattle.reg_text.specs.Lines.{text_of}
use Rattle.reg_text.proofs.Sent.{puts_as}
use Rattle.reg_trace.specs.Traces.{moment_lines}
use Rattle.reg_trace.proofs.Tracing.{trace_more}
use Rattle.reg_trace.proofs.trace_text.put_trace.Goals as goal

pub loop-number-preserved : goal.loop-number-preserved
loop-number-preserved g c =
    let held = g.W.Write.contents in
    let names = c.args.names.now in
    let facts = c.args.moments.now in
    let number = c.loop-number.number in
    let fact = c.index-moments-number.result in
    trace_more held names facts number fact c.args.sink.now c.loop-number.sink c.put_moment.new.sink c.loop-number-test.true c.loop-number.invariant
    (puts_as held c.loop-number.sink c.put_moment.new.sink (text_of (moment_lines names number fact)) (text_of (moment_lines names number (get_or facts number fact))) (ap (λ f. text_of (moment_lines names number f)) c.index-moments-number.is) c.put_moment.ensures)
