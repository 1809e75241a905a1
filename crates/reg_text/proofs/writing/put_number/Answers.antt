use Rattle.std.proofs.Common.{◌∙◌}
use Rattle.std.specs.Fmt.{decimal}
use Rattle.reg_text.proofs.Sent.{puts_two, puts_as}
use Rattle.reg_text.proofs.writing.put_number.Goals as goal

pub returns : goal.returns
returns g c =
    let held = g.W.Write.contents in
    let words = puts_as held c.args.sink.now c.put.new.self c.as_bytes.result.now c.args.words.now c.as_bytes.ensures.value c.put.ensures in
    let digits = puts_as held c.put.new.self c.put-2.new.self c.as_bytes-2.result.now (decimal c.args.number) (c.as_bytes-2.ensures.value ∙ c.format.ensures.text) c.put-2.ensures in
    puts_two held c.args.sink.now c.put.new.self c.put-2.new.self c.args.words.now (decimal c.args.number) words digits
