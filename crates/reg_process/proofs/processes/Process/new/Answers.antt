use Rattle.std.proofs.Common.{rules}
use Rattle.reg_process.proofs.processes.Process.new.Goals as goal

pub new-requires : goal.new-requires
new-requires g c = search rules

pub returns-in_default-clause-fault : goal.returns-in_default-clause-fault
returns-in_default-clause-fault g c = search rules

pub returns-clause-made : goal.returns-clause-made
returns-clause-made g c = search rules
