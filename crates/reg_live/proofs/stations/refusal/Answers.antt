use Rattle.std.proofs.Common.{rules}
use Rattle.reg_live.proofs.stations.refusal.Goals as goal

pub returns-in-TooManyOperations : goal.returns-in-TooManyOperations
returns-in-TooManyOperations c = search rules
