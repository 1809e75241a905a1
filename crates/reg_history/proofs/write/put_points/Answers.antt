use Rattle.reg_text.proofs.Lining.{puts_line}
use Rattle.reg_history.specs.IdLines.{point_text}
use Rattle.reg_history.proofs.write.put_points.Goals as goal

pub loop-point-preserved : goal.loop-point-preserved
loop-point-preserved g c =
    puts_line g.W.Write.contents c.args.sink.now c.loop-point.sink c.put_point.new.sink point_text c.args.points.now c.loop-point.point-index _ c.loop-point-test.true c.loop-point.invariant c.put_point.ensures
