use Rattle.std.proofs.Common.{List, Option, option_map, subst, sym}
use Rattle.reg_checkers.specs.declared.entries.Point.{Point}
use Rattle.reg_world.specs.Fronts.{HasPoints}
use Rattle.reg_world.specs.Worlds.{Made}
use Rattle.reg_trace.specs.Data.{Data, IsDataOf}
use Rattle.reg_trace.proofs.Made.{points_told, with_points}
use Rattle.reg_trace.proofs.data.telling.tell_data.Goals as goal

pub returns-clause-data : goal.returns-clause-data
returns-clause-data g c =
    let start = g.F.FrontEnd.start in
    let p = c.args.schedule in
    let notes = c.args.notes in
    let points : Option (List Point) = option_map (λ v. v.items) c.in-Ok.points in
    subst (λ (d : Data). IsDataOf start p notes points (with_points d points)) (sym c.data.view_is) (points_told start p notes points c.in_ok-data.data c.in_ok-data.ensures.data)

pub returns-clause-points : goal.returns-clause-points
returns-clause-points g c = subst (λ (w : Made). HasPoints g.F.NamedFront.front w (option_map (λ v. v.items) c.in-Ok.points)) c.in_ok-data.ensures.world c.in-Ok.ensures
