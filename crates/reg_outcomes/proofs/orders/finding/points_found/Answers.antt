use Rattle.std.proofs.Common.{List, Option, Vec, MatchOption, refl, subst}
use Rattle.reg_base.specs.declared.memory.OpId.{OpId}
use Rattle.reg_checkers.specs.History.{IsAt}
use Rattle.reg_outcomes.specs.Placing.{ArePointsOf, IsOrder}
use Rattle.reg_outcomes.proofs.Pointing.{are_points, at_events, no_points, stands_called}
use Rattle.reg_outcomes.proofs.orders.finding.points_found.Goals as goal

pub returns-in-None-clause-found : goal.returns-in-None-clause-found
returns-in-None-clause-found g c =
    let s = c.args.finder.now in
    no_points s s.shape s.entries c.requires.history refl refl c.requires.kind
    (subst (λ (o : Option (Vec OpId g.row.A.Denot)). MatchOption o ((ids : List OpId) → ¬ IsOrder s.kind s.shape.registers s.entries ids) (λ v. IsOrder s.kind s.shape.registers s.entries v.items)) c.in-None.is c.in_ok-ids.ensures.found)

pub points_of-requires-clause-called : goal.points_of-requires-clause-called
points_of-requires-clause-called g c =
    let s = c.args.finder.now in
    let order : IsOrder s.kind s.shape.registers s.entries c.in-Some.ids.items = subst (λ (o : Option (Vec OpId g.row.A.Denot)). MatchOption o ((ids : List OpId) → ¬ IsOrder s.kind s.shape.registers s.entries ids) (λ v. IsOrder s.kind s.shape.registers s.entries v.items)) c.in-Some.is c.in_ok-ids.ensures.found in
    λ k id here. stands_called s.shape.processes s.shape.registers s.entries c.requires.history c.in-Some.ids.items order.serial k id (subst (λ (l : List OpId). IsAt l k id) c.deref.ensures.value here)

pub returns-in_ok-points_of-in-Some-clause-found : goal.returns-in_ok-points_of-in-Some-clause-found
returns-in_ok-points_of-in-Some-clause-found g c =
    let s = c.args.finder.now in
    let ps = c.in_ok-points_of-in-Some.field-0.items in
    let order : IsOrder s.kind s.shape.registers s.entries c.in-Some.ids.items = subst (λ (o : Option (Vec OpId g.row.A.Denot)). MatchOption o ((ids : List OpId) → ¬ IsOrder s.kind s.shape.registers s.entries ids) (λ v. IsOrder s.kind s.shape.registers s.entries v.items)) c.in-Some.is c.in_ok-ids.ensures.found in
    are_points s s.shape s.entries c.requires.history refl refl c.requires.kind c.in-Some.ids.items ps order
    (subst (λ (l : List OpId). ArePointsOf s.entries l ps) c.deref.ensures.value c.in_ok-points_of-in-Some.ensures)

pub returns-in_ok-points_of-in-Some-clause-events : goal.returns-in_ok-points_of-in-Some-clause-events
returns-in_ok-points_of-in-Some-clause-events g c =
    let s = c.args.finder.now in
    at_events s.shape.processes s.shape.registers s.entries c.requires.history c.deref.result.now c.in_ok-points_of-in-Some.field-0.items c.in_ok-points_of-in-Some.ensures
