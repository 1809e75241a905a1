use Rattle.std.proofs.Common.{inl, map}
use Rattle.reg_history.specs.IdLines.{point_text, PointFits}
use Rattle.reg_history.specs.LineForms.{HasPointForm, IsBadLine}
use Rattle.reg_history.specs.Refusals.{IsWrongItem}
use Rattle.reg_history.specs.Stops.{IsWrongEnd, IsWrongPoints}
use Rattle.reg_history.proofs.Endings.{points_end}
use Rattle.reg_history.proofs.Stopping.{failure_passed_on, fails_as, fails_behind}
use Rattle.reg_history.proofs.parts.read_points.Goals as goal

pub returns-in_err-points-clause-stopped : goal.returns-in_err-points-clause-stopped
returns-in_err-points-clause-stopped g c =
    failure_passed_on c.from_residual.result _ _ c.from_residual.ensures.1
    (fails_as (IsWrongPoints c.args.version c.args.count) (IsWrongItem point_text (λ _ p. PointFits c.args.version p) (λ _. IsBadLine point_text (PointFits c.args.version) HasPointForm) c.args.count) c.args.lines.now c.in_err-points.field-0.0
    (λ before next why w. inl w) c.in_err-points.ensures.stopped)

pub returns-in_err-read_end-clause-stopped : goal.returns-in_err-read_end-clause-stopped
returns-in_err-read_end-clause-stopped g c =
    let b = c.in_ok-points.ensures.read in
    let points = c.in_ok-points.points.items in
    failure_passed_on c.from_residual-in_err-read_end.result _ _ c.from_residual-in_err-read_end.ensures.1
    (fails_behind (IsWrongPoints c.args.version c.args.count) IsWrongEnd (map point_text points) c.args.lines.now c.read_block.new.lines c.in_err-read_end.field-0.0 b.lines c.in_ok-points.ensures.on
    (points_end c.args.version c.args.count points c.args.lines.now.left c.read_block.new.lines.left b) c.in_err-read_end.ensures.stopped)
