use Rattle.std.proofs.Common.{◌++◌, ◌∷◌, []}
use Rattle.std.specs.Fmt.{decimal}
use Rattle.reg_text.proofs.Sent.{puts_two, puts_as}
use Rattle.reg_history.proofs.write.put_count.Goals as goal

pub returns : goal.returns
returns g c =
    let held = g.W.Write.contents in
    puts_two held c.args.sink.now c.put.new.self c.put_last.new.sink c.args.mark.now (decimal c.args.count ++ 10 ∷ [])
    (puts_as held c.args.sink.now c.put.new.self c.as_bytes.result.now c.args.mark.now c.as_bytes.ensures.value c.put.ensures) c.put_last.ensures
