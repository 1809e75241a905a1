use Rattle.std.proofs.Common.{rules}
use Rattle.reg_cli.specs.StopLines.{stop_line}
use Rattle.reg_text.proofs.Sent.{went_out}
use Rattle.reg_cli.proofs.stop_lines.StopRefusal.write_line.Goals as goal

pub returns : goal.returns
returns g c =
    went_out g.W.Write.contents c.new-sink.result c.put_stop.new.sink c.args.errors.now _ (stop_line c.args.self) c.finish.result c.new-sink.ensures.failed c.new-sink.ensures.now (search rules) c.put_stop.ensures c.finish.ensures
