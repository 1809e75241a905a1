use Rattle.std.proofs.Common.{map, codes}
use Rattle.reg_text.specs.Ops.{op_text}
use Rattle.reg_text.proofs.Sent.{puts_three}
use Rattle.reg_commands.specs.Layout.{joined, quoted}
use Rattle.reg_commands.proofs.layout.laying.put_script.Goals as goal

pub returns : goal.returns
returns g c = puts_three g.W.Write.contents c.args.sink.now c.put.new.self c.put_script_joined.new.sink c.put-2.new.self (codes "[") (joined (map (λ op. quoted (op_text c.args.names.now op)) c.args.ops.now)) (codes "]") c.put.ensures c.put_script_joined.ensures c.put-2.ensures
