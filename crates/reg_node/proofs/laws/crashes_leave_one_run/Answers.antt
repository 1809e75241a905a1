use Rattle.reg_node.proofs.Clustered.{one_run, handed_stays}
use Rattle.reg_node.proofs.laws.crashes_leave_one_run.Goals as goal

pub returns-clause-one_run : goal.returns-clause-one_run
returns-clause-one_run c = one_run

pub returns-clause-handed : goal.returns-clause-handed
returns-clause-handed c = handed_stays
