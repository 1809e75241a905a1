use Rattle.std.proofs.Common.{rules}
use Rattle.reg_world.proofs.running.World.linearization.Goals as goal

pub returns-clause-points : goal.returns-clause-points
returns-clause-points g c = search rules

pub returns-clause-first : goal.returns-clause-first
returns-clause-first g c = search rules
