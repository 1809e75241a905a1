use Rattle.std.proofs.Common.{rules}
use Rattle.reg_trace.proofs.waits.first_unheard.Goals as goal

pub loop-other-preserved : goal.loop-other-preserved
loop-other-preserved g c = search rules
