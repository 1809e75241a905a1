use Rattle.std.proofs.Common.{rules}
use Rattle.reg_reasons.proofs.refusals.accepted.Goals as goal

pub returns : goal.returns
returns g c = search rules
