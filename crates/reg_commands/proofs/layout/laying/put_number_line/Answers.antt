use Rattle.std.proofs.Common.{◌∷◌, ◌++◌, [], codes}
use Rattle.std.specs.Fmt.{decimal}
use Rattle.reg_text.proofs.Sent.{puts_as, puts_three}
use Rattle.reg_commands.proofs.layout.laying.put_number_line.Goals as goal

pub returns : goal.returns
returns g c =
    let held = g.W.Write.contents in
    puts_three held c.args.sink.now c.put.new.self c.put_number.new.sink c.put-2.new.self c.args.key.now (codes " = " ++ decimal c.args.number) (10 ∷ [])
    (puts_as held c.args.sink.now c.put.new.self c.as_bytes.result.now c.args.key.now c.as_bytes.ensures.value c.put.ensures) c.put_number.ensures c.put-2.ensures
