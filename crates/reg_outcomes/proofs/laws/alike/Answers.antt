use Rattle.reg_outcomes.proofs.BothWays.{alike, have_all}
use Rattle.reg_outcomes.proofs.laws.alike.Goals as goal

pub returns-clause-all : goal.returns-clause-all
returns-clause-all c = have_all

pub returns-clause-alike : goal.returns-clause-alike
returns-clause-alike c = alike
