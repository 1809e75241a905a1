use Rattle.std.proofs.Common.{◌∷◌, []}
use Rattle.reg_text.proofs.Sent.{puts_two}
use Rattle.reg_commands.specs.FaultLines.{fault_text}
use Rattle.reg_commands.proofs.fault_lines.put_fault.Goals as goal

pub returns : goal.returns
returns g c = puts_two g.W.Write.contents c.args.sink.now c.put_fault_text.new.sink c.put.new.self (fault_text c.args.fault) (10 ∷ []) c.put_fault_text.ensures c.put.ensures
