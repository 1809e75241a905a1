use Rattle.std.proofs.Common.{rules}
use Rattle.reg_front.proofs.named.Front.from_name.Goals as goal

pub returns-in-linear : goal.returns-in-linear
returns-in-linear c = search rules

pub returns-in-text : goal.returns-in-text
returns-in-text c = search rules
