use Rattle.std.proofs.Common.{◌++◌, ◌∷◌, []}
use Rattle.reg_text.proofs.Sent.{puts_two, puts_as}
use Rattle.reg_history.proofs.write.put_line.Goals as goal

pub returns : goal.returns
returns g c =
    let held = g.W.Write.contents in
    let mark = puts_as held c.args.sink.now c.put.new.self c.as_bytes.result.now c.args.mark.now c.as_bytes.ensures.value c.put.ensures in
    let text = puts_as held c.put.new.self c.put-2.new.self c.as_bytes-2.result.now c.args.text.now c.as_bytes-2.ensures.value c.put-2.ensures in
    puts_two held c.args.sink.now c.put.new.self c.put-3.new.self c.args.mark.now (c.args.text.now ++ 10 ∷ []) mark
    (puts_two held c.put.new.self c.put-2.new.self c.put-3.new.self c.args.text.now (10 ∷ []) text c.put-3.ensures)
