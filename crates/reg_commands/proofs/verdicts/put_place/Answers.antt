use Rattle.std.proofs.Common.{◌++◌, ◌∷◌, []}
use Rattle.std.specs.Fmt.{decimal}
use Rattle.reg_text.proofs.Sent.{puts_two, puts_as}
use Rattle.reg_commands.proofs.verdicts.put_place.Goals as goal

pub returns : goal.returns
returns g c =
    let held = g.W.Write.contents in
    let name = c.args.name.now in
    let place = c.args.words.now ++ decimal c.args.place in
    puts_two held c.args.sink.now c.put_number.new.sink c.put-2.new.self (name ++ place) (10 ∷ [])
    (puts_two held c.args.sink.now c.put.new.self c.put_number.new.sink name place
    (puts_as held c.args.sink.now c.put.new.self c.as_bytes.result.now name c.as_bytes.ensures.value c.put.ensures) c.put_number.ensures) c.put-2.ensures
