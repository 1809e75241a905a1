use Rattle.std.proofs.Common.{rules}
use Rattle.reg_front.proofs.named.Front.name.Goals as goal

pub returns-in-Linear : goal.returns-in-Linear
returns-in-Linear c = search rules
