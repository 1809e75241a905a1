use Rattle.std.proofs.Common.{ap}
use Rattle.reg_commands.proofs.Told.{all_points_told}
use Rattle.reg_commands.proofs.verdicts.judge_points.Goals as goal

pub returns : goal.returns
returns g c = all_points_told c.args.report.now c.history.result.now.shape.registers c.history.result.now.entries c.args.points.now c.check_points.result c.verdict_of.result (ap (λ s. s.registers) c.history.ensures.shape) c.history.ensures.entries c.check_points.ensures c.verdict_of.ensures.tells
