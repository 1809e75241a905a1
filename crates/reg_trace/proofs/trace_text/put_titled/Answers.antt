use Rattle.reg_trace.specs.Traces.{title_line, trace_text}
use Rattle.reg_text.proofs.Sent.{puts_two}
use Rattle.reg_trace.proofs.trace_text.put_titled.Goals as goal

pub returns : goal.returns
returns g c = puts_two g.W.Write.contents c.args.sink.now c.put_title.new.sink c.put_trace.new.sink (title_line c.args.title.now) (trace_text c.args.names.now c.args.moments.now) c.put_title.ensures c.put_trace.ensures
