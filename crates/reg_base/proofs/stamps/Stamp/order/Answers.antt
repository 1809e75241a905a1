use Rattle.std.proofs.Common.{rules}
use Rattle.reg_base.proofs.stamps.Stamp.order.Goals as goal

pub returns : goal.returns
returns c = search rules
