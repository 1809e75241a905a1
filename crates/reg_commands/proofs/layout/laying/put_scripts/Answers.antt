use Rattle.std.proofs.Common.{map, codes, ap}
use Rattle.reg_text.proofs.Sent.{puts_as, puts_three}
use Rattle.reg_commands.specs.Layout.{array_text, joined, script_array, scripts_array}
use Rattle.reg_commands.proofs.Joined.{map_twice}
use Rattle.reg_commands.proofs.layout.laying.put_scripts.Goals as goal

pub returns : goal.returns
returns g c =
    let held = g.W.Write.contents in
    let names = c.args.names.now in
    let twice = map_twice (script_array names) (λ script. script.items) c.args.scripts.now in
    puts_as held c.args.sink.now c.put-2.new.self (array_text (map (λ script. script_array names script.items) c.args.scripts.now)) (scripts_array names (map (λ script. script.items) c.args.scripts.now)) (ap array_text twice)
    (puts_three held c.args.sink.now c.put.new.self c.put_scripts_joined.new.sink c.put-2.new.self (codes "[") (joined (map (λ script. script_array names script.items) c.args.scripts.now)) (codes "]") c.put.ensures c.put_scripts_joined.ensures c.put-2.ensures)
