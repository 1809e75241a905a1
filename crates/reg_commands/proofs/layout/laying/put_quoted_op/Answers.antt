use Rattle.std.proofs.Common.{◌∷◌, []}
use Rattle.reg_text.specs.Ops.{op_text}
use Rattle.reg_text.proofs.Sent.{puts_three}
use Rattle.reg_commands.proofs.layout.laying.put_quoted_op.Goals as goal

pub returns : goal.returns
returns g c = puts_three g.W.Write.contents c.args.sink.now c.put.new.self c.put_op.new.sink c.put-2.new.self (34 ∷ []) (op_text c.args.names.now c.args.op) (34 ∷ []) c.put.ensures c.put_op.ensures c.put-2.ensures
