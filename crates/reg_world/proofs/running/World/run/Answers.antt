use Rattle.std.proofs.Common.{rules}
use Rattle.reg_world.proofs.running.World.run.Goals as goal

pub returns-clause-world : goal.returns-clause-world
returns-clause-world g c = search rules

pub returns-clause-history : goal.returns-clause-history
returns-clause-history g c = search rules

pub returns-clause-accepted : goal.returns-clause-accepted
returns-clause-accepted g c = search rules
