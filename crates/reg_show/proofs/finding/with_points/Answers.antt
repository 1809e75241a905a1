use Rattle.std.proofs.Common.{◌≡◌, List, Option, Vec, MatchOption, ap, sym, ◌∙◌, subst}
use Rattle.reg_base.specs.declared.memory.OpId.{OpId}
use Rattle.reg_checkers.specs.declared.entries.Point.{Point}
use Rattle.reg_checkers.specs.Checks.{ids_of}
use Rattle.reg_checkers.specs.Orders.{IsPointOrder, IsSerial}
use Rattle.reg_checkers.proofs.RealTime.{point_order_is_serial}
use Rattle.reg_show.proofs.Reordering.{points_there}
use Rattle.reg_show.proofs.finding.with_points.Goals as goal

pub reordered-requires-clause-order : goal.reordered-requires-clause-order
reordered-requires-clause-order g c =
    let r = c.args.report in
    let h = c.history.result.now in
    let ps = c.in-Some.points.items in
    let here : IsPointOrder h.shape.registers h.entries ps = subst (λ (o : Option (Vec Point g.row.A.Denot)). MatchOption o ((points : List Point) → ¬ IsPointOrder h.shape.registers h.entries points) (λ v. IsPointOrder h.shape.registers h.entries v.items)) c.in-Some.is c.in_ok-points.ensures.found in
    let there = points_there h.shape h.entries r c.history.ensures.shape c.history.ensures.entries ps here in
    let ids : c.in_ok-ids.ids.items ≡ ids_of ps = c.in_ok-ids.ensures ∙ ap ids_of c.deref.ensures.value in
    subst (λ (l : List OpId). IsSerial r.shape.registers r.entries l) (sym ids) (point_order_is_serial r.shape.processes r.shape.registers r.entries ps c.history.ensures.report.history there)
