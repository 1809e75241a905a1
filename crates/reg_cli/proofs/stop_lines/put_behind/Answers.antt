use Rattle.std.proofs.Common.{◌++◌, codes, sym, append_assoc}
use Rattle.std.specs.Fmt.{decimal}
use Rattle.reg_text.proofs.Sent.{puts_two, puts_as}
use Rattle.reg_cli.proofs.stop_lines.put_behind.Goals as goal

pub returns : goal.returns
returns g c =
    let held = g.W.Write.contents in
    let process = codes "process " ++ decimal c.args.process in
    let length = decimal c.args.length in
    puts_as held c.args.sink.now c.put_number-2.new.sink (process ++ (codes ": behind " ++ length)) (process ++ codes ": behind " ++ length) (sym (append_assoc process (codes ": behind ") length))
    (puts_two held c.args.sink.now c.put_number.new.sink c.put_number-2.new.sink process (codes ": behind " ++ length) c.put_number.ensures c.put_number-2.ensures)
