use Rattle.std.proofs.Common.{◌≡◌, ap, ◌∙◌, subst, option_map}
use Rattle.reg_base.specs.Shape.{Extent}
use Rattle.reg_history.specs.Reports.{Contents}
use Rattle.reg_world.specs.Worlds.{Made, run_in}
use Rattle.reg_commands.proofs.Shown.{points_given, serial_given, shows, time_given}
use Rattle.reg_commands.proofs.reporting.report_world.Goals as goal

pub report-requires-clause-title : goal.report-requires-clause-title
report-requires-clause-title g c = (c.args.front, c.in_ok-title.ensures.ok ∙ c.name.ensures)

pub report-requires-clause-names : goal.report-requires-clause-names
report-requires-clause-names g c = ap (λ (s : Extent). s.registers) c.into_history.ensures.shape ∙ c.requires.names

pub report-requires-clause-order : goal.report-requires-clause-order
report-requires-clause-order g c =
    serial_given c.in_ok-order.field-0-0.now c.into_history.result c.args.world c.in_ok-order.order.items c.in_ok-order.ensures.shape c.in_ok-order.ensures.value c.into_history.ensures.shape c.into_history.ensures.value c.in_ok-order.ensures.serial

pub report-requires-clause-points : goal.report-requires-clause-points
report-requires-clause-points g c = points_given c.into_history.result c.args.world _ c.into_history.ensures.shape c.into_history.ensures.value c.requires.points

pub returns-clause-shows : goal.returns-clause-shows
returns-clause-shows g c =
    let P : Made → Type 0 = λ w. (run_in g.F.FrontEnd.start w).accepted ≡ w.accepted in
    shows g.F.FrontEnd.start c.args.front c.args.names c.args.world c.into_history.result c.in_ok-order.order.items (option_map (λ v. v.items) c.args.points) c.report.result
    (record { accepted = subst P c.world.view_is c.world.invariant.tells.accepted; shape = c.into_history.ensures.shape; entries = c.into_history.ensures.entries; order = c.in_ok-order.ensures.keyed })
    (record {
      serial = serial_given c.in_ok-order.field-0-0.now c.into_history.result c.args.world c.in_ok-order.order.items c.in_ok-order.ensures.shape c.in_ok-order.ensures.value c.into_history.ensures.shape c.into_history.ensures.value c.in_ok-order.ensures.serial;
      points = points_given c.into_history.result c.args.world _ c.into_history.ensures.shape c.into_history.ensures.value c.requires.points;
    })
    (time_given g.F.FrontEnd.start c.in_ok-order.field-0-0.now c.into_history.result c.args.world c.in_ok-order.order.items c.in_ok-order.ensures.value c.into_history.ensures.value c.in_ok-order.ensures.real_time)
    (rw (← (c.in_ok-title.ensures.ok ∙ c.name.ensures)) c.report.ensures)

pub returns-clause-points : goal.returns-clause-points
returns-clause-points g c = ap (λ (r : Contents). r.points) c.report.ensures
