use Rattle.std.proofs.Common.{rules}
use Rattle.reg_live.proofs.scripts.RunStopFromAllocError.from.Goals as goal

pub returns : goal.returns
returns c = search rules
