use Rattle.std.proofs.Common.{◌∙◌}
use Rattle.reg_text.proofs.Sent.{puts_two, puts_as}
use Rattle.reg_inputs.specs.Keys.{key_name}
use Rattle.reg_commands.proofs.fault_lines.put_key.Goals as goal

pub returns : goal.returns
returns g c =
    let held = g.W.Write.contents in
    let words = puts_as held c.args.sink.now c.put.new.self c.as_bytes.result.now c.args.words.now c.as_bytes.ensures.value c.put.ensures in
    let name = puts_as held c.put.new.self c.put-2.new.self c.as_bytes-2.result.now (key_name c.args.key) (c.as_bytes-2.ensures.value ∙ c.name.ensures) c.put-2.ensures in
    puts_two held c.args.sink.now c.put.new.self c.put-2.new.self c.args.words.now (key_name c.args.key) words name
