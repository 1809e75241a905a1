use Rattle.reg_world.proofs.one_memory.Refusals.{refused_by_fault}
use Rattle.reg_world.proofs.run.Along.{one_more}
use Rattle.reg_world.proofs.laws.refused_by_fault.Goals as goal

pub returns-clause-refused : goal.returns-clause-refused
returns-clause-refused c = refused_by_fault

pub returns-clause-next : goal.returns-clause-next
returns-clause-next c = one_more
