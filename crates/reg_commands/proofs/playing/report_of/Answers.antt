use Rattle.std.proofs.Common.{ap}
use Rattle.reg_inputs.specs.Loads.{Load}
use Rattle.reg_commands.specs.Replays.{PointsOf}
use Rattle.reg_commands.proofs.Played.{play_shown}
use Rattle.reg_commands.proofs.playing.report_of.Goals as goal

pub returns-clause-shows : goal.returns-clause-shows
returns-clause-shows g c =
    play_shown c.args.fair g.F.FrontEnd.start c.args.work c.work.inside.front c.work.inside.names c.in_ok-play.play.world c.in_ok-play.play.finished (PointsOf g.F.NamedFront.front) c.report_run.result
    (ap (λ (w : Load). w.front) c.work.view_is) (ap (λ (w : Load). w.names) c.work.view_is) c.in_ok-play.ensures c.report_run.ensures.shows c.report_run.ensures.points
