use Rattle.std.proofs.Common.{Err, ap}
use Rattle.reg_text.proofs.Sent.{all_or_part}
use Rattle.reg_cli.specs.StopLines.{stop_line}
use Rattle.reg_cli.proofs.performing.run_live.Goals as goal

pub returns-in-Err-clause-refused : goal.returns-in-Err-clause-refused
returns-in-Err-clause-refused g c = λ _.
    let told = all_or_part (g.E.Write.contents c.args.errors.now) (g.E.Write.contents c.write_line.new.errors) (stop_line c.in-Err.stop) c.write_line.result c.write_line.ensures in
    (c.in-Err.stop, c.in-Err.ensures.why, c.in-Err.ensures.silent, λ same. c.in-Err.ensures.part (ap Err same), told)
