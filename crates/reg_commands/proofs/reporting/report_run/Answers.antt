use Rattle.std.proofs.Common.{option_map}
use Rattle.reg_commands.proofs.Named.{points_shown}
use Rattle.reg_commands.proofs.reporting.report_run.Goals as goal

pub returns-clause-points : goal.returns-clause-points
returns-clause-points g c =
    points_shown g.F.NamedFront.front c.args.front c.args.names c.args.world c.report_world.result (option_map (λ v. v.items) c.in_ok-points.points) c.in_ok-points.ensures.points c.report_world.ensures.points
