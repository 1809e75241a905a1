use Rattle.std.proofs.Common.{rules}
use Rattle.reg_records.proofs.verifying.verify.Goals as goal

pub returns : goal.returns
returns g c = search rules
