use Rattle.std.proofs.Common.{◌∷◌, []}
use Rattle.reg_text.proofs.Sent.{puts_two, puts_as}
use Rattle.reg_inputs.proofs.schedule_text.put_name.Goals as goal

pub returns : goal.returns
returns g c =
    let held = g.W.Write.contents in
    puts_two held c.args.sink.now c.put.new.self c.put-2.new.self (32 ∷ []) c.args.name.now c.put.ensures
    (puts_as held c.put.new.self c.put-2.new.self c.as_bytes.result.now c.args.name.now c.as_bytes.ensures.value c.put-2.ensures)
