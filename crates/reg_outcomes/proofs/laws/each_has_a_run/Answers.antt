use Rattle.reg_outcomes.proofs.TurningRuns.{each_has_a_run}
use Rattle.reg_outcomes.proofs.laws.each_has_a_run.Goals as goal

pub returns : goal.returns
returns c = each_has_a_run
