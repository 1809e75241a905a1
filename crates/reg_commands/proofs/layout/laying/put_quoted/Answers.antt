use Rattle.std.proofs.Common.{◌∷◌, []}
use Rattle.reg_text.proofs.Sent.{puts_as, puts_three}
use Rattle.reg_commands.proofs.layout.laying.put_quoted.Goals as goal

pub returns : goal.returns
returns g c =
    let held = g.W.Write.contents in
    puts_three held c.args.sink.now c.put.new.self c.put-2.new.self c.put-3.new.self (34 ∷ []) c.args.word.now (34 ∷ []) c.put.ensures
    (puts_as held c.put.new.self c.put-2.new.self c.as_bytes.result.now c.args.word.now c.as_bytes.ensures.value c.put-2.ensures) c.put-3.ensures
