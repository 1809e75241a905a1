use Rattle.std.proofs.Common.{◌++◌, codes}
use Rattle.std.specs.Fmt.{decimal}
use Rattle.reg_text.proofs.Sent.{puts_two, puts_as}
use Rattle.reg_commands.proofs.fault_lines.put_place.Goals as goal

pub returns : goal.returns
returns g c =
    let held = g.W.Write.contents in
    let place = c.args.name.now ++ decimal c.args.number in
    let words = puts_as held c.put.new.self c.put-2.new.self c.as_bytes.result.now c.args.words.now c.as_bytes.ensures.value c.put-2.ensures in
    puts_two held c.args.sink.now c.put.new.self c.put-2.new.self (place ++ codes ": ") c.args.words.now
    (puts_two held c.args.sink.now c.put_number.new.sink c.put.new.self place (codes ": ") c.put_number.ensures c.put.ensures) words
