use Rattle.std.proofs.Common.{rules}
use Rattle.reg_c.proofs.events.event.Goals as goal

pub returns-in-4 : goal.returns-in-4
returns-in-4 c = search rules
