use Rattle.std.proofs.Common.{rules}
use Rattle.reg_world.proofs.adding.push_first.Goals as goal

pub returns-then-is_after-clause-order : goal.returns-then-is_after-clause-order
returns-then-is_after-clause-order g c = search rules
