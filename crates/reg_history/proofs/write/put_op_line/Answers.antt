use Rattle.std.proofs.Common.{◌∷◌, []}
use Rattle.reg_text.specs.Ops.{op_text}
use Rattle.reg_text.proofs.Sent.{puts_two}
use Rattle.reg_history.proofs.write.put_op_line.Goals as goal

pub returns : goal.returns
returns g c = puts_two g.W.Write.contents c.args.sink.now c.put_op.new.sink c.put.new.self (op_text c.args.names.now c.args.op) (10 ∷ []) c.put_op.ensures c.put.ensures
