use Rattle.reg_text.proofs.Sent.{puts_two}
use Rattle.reg_commands.specs.Layout.{between, script_array}
use Rattle.reg_commands.proofs.layout.laying.put_script_at.Goals as goal

pub returns : goal.returns
returns g c =
    puts_two g.W.Write.contents c.args.sink.now c.put_between.new.sink c.put_script.new.sink (between c.args.place) (script_array c.args.names.now c.args.ops.now) c.put_between.ensures c.put_script.ensures
