use Rattle.std.proofs.Common.{◌++◌, rules}
use Rattle.reg_trace.specs.Traces.{title_line, trace_text}
use Rattle.reg_text.proofs.Sent.{went_out}
use Rattle.reg_trace.proofs.trace_text.write_trace.Goals as goal

pub returns : goal.returns
returns g c =
    went_out g.W.Write.contents c.new-sink.result c.put_titled.new.sink c.args.writer.now _ (title_line c.args.title.now ++ trace_text c.args.names.now c.args.moments.now) c.finish.result c.new-sink.ensures.failed c.new-sink.ensures.now (search rules) c.put_titled.ensures c.finish.ensures
