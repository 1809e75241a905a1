use Rattle.reg_outcomes.proofs.BothWays.{none_missing}
use Rattle.reg_outcomes.proofs.laws.none_missing.Goals as goal

pub returns : goal.returns
returns c = none_missing
