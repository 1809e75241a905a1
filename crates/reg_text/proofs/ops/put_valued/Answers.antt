use Rattle.std.proofs.Common.{◌∷◌}
use Rattle.std.specs.Fmt.{decimal}
use Rattle.reg_text.proofs.Sent.{puts_two, puts_as}
use Rattle.reg_text.proofs.ops.put_valued.Goals as goal

pub returns : goal.returns
returns g c =
    let held = g.W.Write.contents in
    let name = puts_as held c.args.sink.now c.put.new.self c.as_bytes.result.now c.args.name.now c.as_bytes.ensures.value c.put.ensures in
    puts_two held c.args.sink.now c.put.new.self c.put_spaced.new.sink c.args.name.now (32 ∷ decimal c.args.value) name c.put_spaced.ensures
