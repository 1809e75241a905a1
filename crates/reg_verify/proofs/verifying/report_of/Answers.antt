use Rattle.std.proofs.Common.{ap}
use Rattle.reg_commands.specs.Replays.{PointsOf}
use Rattle.reg_node.specs.RecordLines.{Account}
use Rattle.reg_verify.proofs.Shown.{as_many_registers, shown}
use Rattle.reg_verify.proofs.verifying.report_of.Goals as goal

pub report_run-requires : goal.report_run-requires
report_run-requires g c =
    let i = c.account.inside in
    as_many_registers g.F.FrontEnd.start c.args.account i.shape i.names i.steps.items c.in_ok-world.world c.requires (ap (λ (a : Account). a.shape) c.account.view_is) (ap (λ (a : Account). a.names) c.account.view_is) c.in_ok-world.ensures.ran

pub returns-clause-shows : goal.returns-clause-shows
returns-clause-shows g c =
    let i = c.account.inside in
    shown g.F.FrontEnd.start c.args.account i.front i.shape i.names i.steps.items c.in_ok-world.world (PointsOf g.F.NamedFront.front) c.in_ok-report.report c.account.view_is c.in_ok-world.ensures.ran c.in_ok-report.ensures.shows c.in_ok-report.ensures.points
