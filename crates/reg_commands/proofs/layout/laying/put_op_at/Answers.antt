use Rattle.reg_text.specs.Ops.{op_text}
use Rattle.reg_text.proofs.Sent.{puts_two}
use Rattle.reg_commands.specs.Layout.{between, quoted}
use Rattle.reg_commands.proofs.layout.laying.put_op_at.Goals as goal

pub returns : goal.returns
returns g c =
    puts_two g.W.Write.contents c.args.sink.now c.put_between.new.sink c.put_quoted_op.new.sink (between c.args.place) (quoted (op_text c.args.names.now c.args.op)) c.put_between.ensures c.put_quoted_op.ensures
