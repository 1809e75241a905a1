use Rattle.std.proofs.Common.{rules}
use Rattle.reg_world.proofs.faults.WorldFaultDisplay.fmt.Goals as goal

pub returns-clause-writes : goal.returns-clause-writes
returns-clause-writes g c = search rules
