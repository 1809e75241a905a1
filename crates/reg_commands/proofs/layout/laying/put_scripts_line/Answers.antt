use Rattle.std.proofs.Common.{◌∷◌, [], codes, map}
use Rattle.reg_text.proofs.Sent.{puts_three}
use Rattle.reg_commands.specs.Layout.{scripts_array}
use Rattle.reg_commands.proofs.layout.laying.put_scripts_line.Goals as goal

pub returns : goal.returns
returns g c =
    puts_three g.W.Write.contents c.args.sink.now c.put.new.self c.put_scripts.new.sink c.put-2.new.self (codes "scripts = ") (scripts_array c.args.names.now (map (λ script. script.items) c.args.scripts.now)) (10 ∷ []) c.put.ensures c.put_scripts.ensures c.put-2.ensures
