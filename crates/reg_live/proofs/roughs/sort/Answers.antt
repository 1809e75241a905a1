use Rattle.std.proofs.Common.{rules}
use Rattle.reg_live.proofs.roughs.sort.Goals as goal

pub returns-in-Put : goal.returns-in-Put
returns-in-Put c = search rules
