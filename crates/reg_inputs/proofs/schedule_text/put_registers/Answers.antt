use Rattle.std.proofs.Common.{◌∷◌, [], codes}
use Rattle.reg_text.specs.Words.{names_text}
use Rattle.reg_text.proofs.Sent.{puts_three}
use Rattle.reg_inputs.proofs.schedule_text.put_registers.Goals as goal

pub returns : goal.returns
returns g c =
    puts_three g.W.Write.contents c.args.sink.now c.put.new.self c.put_names.new.sink c.put-2.new.self (codes "registers") (names_text c.args.names.now) (10 ∷ []) c.put.ensures c.put_names.ensures c.put-2.ensures
