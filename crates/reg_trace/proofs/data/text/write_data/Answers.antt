use Rattle.std.proofs.Common.{◌++◌, rules}
use Rattle.reg_trace.specs.Data.{data_text}
use Rattle.reg_text.proofs.Sent.{went_out}
use Rattle.reg_trace.proofs.data.text.write_data.Goals as goal

pub returns : goal.returns
returns g c =
    went_out g.W.Write.contents c.new-sink.result c.put_between.new.sink c.args.writer.now _ (c.args.head.now ++ (data_text c.args.run.now ++ c.args.tail.now)) c.finish.result c.new-sink.ensures.failed c.new-sink.ensures.now (search rules) c.put_between.ensures c.finish.ensures
