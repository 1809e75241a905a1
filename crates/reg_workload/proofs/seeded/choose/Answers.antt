use Rattle.std.proofs.Common.{rules}
use Rattle.reg_workload.specs.Seeded.{chooses}
use Rattle.reg_workload.proofs.seeded.choose.Goals as goal

pub returns-in-Call-clause-value : goal.returns-in-Call-clause-value
unfolding chooses
returns-in-Call-clause-value g c = search rules

pub returns-in-Tick-clause-value : goal.returns-in-Tick-clause-value
unfolding chooses
returns-in-Tick-clause-value g c = search rules

pub returns-in-Take-clause-value : goal.returns-in-Take-clause-value
unfolding chooses
returns-in-Take-clause-value g c = search rules

pub returns-then-not-happens-clause-value : goal.returns-then-not-happens-clause-value
unfolding chooses
returns-then-not-happens-clause-value g c = search rules

pub returns-else-not-happens-clause-value : goal.returns-else-not-happens-clause-value
unfolding chooses
returns-else-not-happens-clause-value g c = search rules
