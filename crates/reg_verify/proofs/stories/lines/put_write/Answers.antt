use Rattle.std.proofs.Common.{◌∷◌, ◌++◌, [], codes}
use Rattle.std.specs.Fmt.{decimal}
use Rattle.reg_text.specs.Ops.{op_text}
use Rattle.reg_text.proofs.Sent.{puts_four}
use Rattle.reg_verify.proofs.stories.lines.put_write.Goals as goal

pub returns : goal.returns
returns g c =
    puts_four g.W.Write.contents c.args.sink.now c.put_number.new.sink c.put.new.self c.put_op.new.sink c.put-2.new.self (codes "p0 #" ++ decimal c.args.number) (codes " should be ") (op_text c.args.names.now c.args.op) (codes ", with which the chapter before ended" ++ 10 ∷ []) c.put_number.ensures c.put.ensures c.put_op.ensures c.put-2.ensures
