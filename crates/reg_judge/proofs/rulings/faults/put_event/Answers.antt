use Rattle.std.proofs.Common.{◌++◌, codes}
use Rattle.std.specs.Fmt.{decimal}
use Rattle.reg_text.proofs.Sent.{puts_two, puts_as}
use Rattle.reg_judge.proofs.rulings.faults.put_event.Goals as goal

pub returns : goal.returns
returns g c =
    let held = g.W.Write.contents in
    let words = puts_as held c.put_number.new.sink c.put.new.self c.as_bytes.result.now c.args.words.now c.as_bytes.ensures.value c.put.ensures in
    puts_two held c.args.sink.now c.put_number.new.sink c.put.new.self (codes "event " ++ decimal c.args.at) c.args.words.now c.put_number.ensures words
