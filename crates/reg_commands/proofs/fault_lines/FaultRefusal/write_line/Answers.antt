use Rattle.std.proofs.Common.{rules}
use Rattle.reg_commands.specs.FaultLines.{fault_line}
use Rattle.reg_text.proofs.Sent.{went_out}
use Rattle.reg_commands.proofs.fault_lines.FaultRefusal.write_line.Goals as goal

pub returns : goal.returns
returns g c =
    went_out g.W.Write.contents c.new-sink.result c.put_fault.new.sink c.args.errors.now _ (fault_line c.args.self) c.finish.result c.new-sink.ensures.failed c.new-sink.ensures.now (search rules) c.put_fault.ensures c.finish.ensures
