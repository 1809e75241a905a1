use Rattle.std.proofs.Common.{take}
use Rattle.reg_text.specs.Writing.{Puts}
use Rattle.reg_text.specs.Lines.{lines_by}
use Rattle.reg_history.specs.IdLines.{point_text}
use Rattle.reg_history.proofs.write.put_points.Given as goal

-- the sink has the lines so far
abbrev pub invariant-loop-point : goal.invariant-loop-point
invariant-loop-point g l =
    Puts g.W.Write.contents l.initial.sink l.sink (lines_by point_text (take l.point-index l.points))
