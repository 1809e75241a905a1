use Rattle.std.proofs.Common.{codes}
use Rattle.reg_text.proofs.Sent.{puts_two}
use Rattle.reg_commands.specs.Verdicts.{verdict_line, points_line}
use Rattle.reg_commands.proofs.verdicts.put_verdicts.Goals as goal

pub returns : goal.returns
returns g c =
    puts_two g.W.Write.contents c.args.sink.now c.put_serial.new.sink c.put_points.new.sink (verdict_line (codes "serial") c.args.verdicts.serial) (points_line c.args.verdicts.points) c.put_serial.ensures c.put_points.ensures
