use Rattle.reg_verify.proofs.Judged.{refused_order, refused_points}
use Rattle.reg_verify.proofs.stories.judging.refused.Goals as goal

pub returns-in-Some : goal.returns-in-Some
returns-in-Some g c = refused_order c.args.report.now c.in_ok-verdicts.verdicts c.in-Some.reason c.history-history.ensures.report c.in_ok-verdicts.ensures c.in-Some.ensures

pub returns-in-Some-points_reason : goal.returns-in-Some-points_reason
returns-in-Some-points_reason g c = refused_points c.args.report.now c.in_ok-verdicts.verdicts c.in-Some-points_reason.reason c.history-history.ensures.report c.in_ok-verdicts.ensures c.in_default.ensures c.in-Some-points_reason.ensures
