use Rattle.std.proofs.Common.{rules}
use Rattle.reg_world.proofs.packed.Tables.frame.Goals as goal

pub returns-in-Count : goal.returns-in-Count
returns-in-Count g c = search rules
