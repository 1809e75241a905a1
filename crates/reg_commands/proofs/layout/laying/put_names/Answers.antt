use Rattle.std.proofs.Common.{map, codes}
use Rattle.reg_text.proofs.Sent.{puts_three}
use Rattle.reg_commands.specs.Layout.{joined, quoted}
use Rattle.reg_commands.proofs.layout.laying.put_names.Goals as goal

pub returns : goal.returns
returns g c = puts_three g.W.Write.contents c.args.sink.now c.put.new.self c.put_names_joined.new.sink c.put-2.new.self (codes "[") (joined (map quoted c.args.names.now)) (codes "]") c.put.ensures c.put_names_joined.ensures c.put-2.ensures
