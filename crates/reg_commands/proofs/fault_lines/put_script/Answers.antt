use Rattle.std.proofs.Common.{◌++◌, codes, sym, append_assoc}
use Rattle.std.specs.Fmt.{decimal}
use Rattle.reg_text.proofs.Sent.{puts_two, puts_as}
use Rattle.reg_commands.proofs.fault_lines.put_script.Goals as goal

pub returns : goal.returns
returns g c =
    let held = g.W.Write.contents in
    let process = codes "script " ++ decimal c.args.process in
    let place = decimal c.args.place in
    puts_as held c.args.sink.now c.put_number-2.new.sink (process ++ (codes " " ++ place)) (process ++ codes " " ++ place) (sym (append_assoc process (codes " ") place))
    (puts_two held c.args.sink.now c.put_number.new.sink c.put_number-2.new.sink process (codes " " ++ place) c.put_number.ensures c.put_number-2.ensures)
