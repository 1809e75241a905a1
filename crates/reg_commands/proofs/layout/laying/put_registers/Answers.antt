use Rattle.std.proofs.Common.{◌∷◌, [], codes}
use Rattle.reg_text.proofs.Sent.{puts_three}
use Rattle.reg_commands.specs.Layout.{names_array}
use Rattle.reg_commands.proofs.layout.laying.put_registers.Goals as goal

pub returns : goal.returns
returns g c =
    puts_three g.W.Write.contents c.args.sink.now c.put.new.self c.put_names.new.sink c.put-2.new.self (codes "registers = ") (names_array c.args.names.now) (10 ∷ []) c.put.ensures c.put_names.ensures c.put-2.ensures
