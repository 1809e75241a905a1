use Rattle.reg_outcomes.specs.declared.orders.kinds.OrderKind.TheVariants.{Points}
use Rattle.reg_outcomes.proofs.Pointing.{found_in}
use Rattle.reg_outcomes.proofs.orders.finding.ids_by_points.Goals as goal

pub returns-clause-found : goal.returns-clause-found
returns-clause-found g c =
    let f = c.in_ok-points.ensures in
    found_in c.in_ok-points.points Points c.args.history.now.shape c.args.history.now.entries f.kind f.shape f.entries c.ids_found.result c.ids_found.ensures.found
