use Rattle.reg_commands.proofs.Shown.{memory_blames, same_plan, shows_same}
use Rattle.reg_web.proofs.under.report_under.Goals as goal

pub returns-clause-shows : goal.returns-clause-shows
returns-clause-shows g c =
    let start = g.F.FrontEnd.start in
    let ran = c.in_ok-world in
    shows_same start _ c.args.schedule c.report_world.result (same_plan start c.args.schedule ran.field-0.front ran.field-0.names ran.field-0.world ran.ensures.ran ran.ensures.names ran.ensures.front) c.report_world.ensures.shows

pub returns-clause-why : goal.returns-clause-why
returns-clause-why g c =
    memory_blames g.F.FrontEnd.start c.args.schedule c.report_world.result c.report_world.ensures.why
