use Rattle.std.proofs.Common.{rules}
use Rattle.reg_front.proofs.ends.LinearFrontEnd.start.Goals as goal

pub returns : goal.returns
returns c = search rules
