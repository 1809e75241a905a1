use Rattle.std.proofs.Common.{arith}
use Rattle.reg_records.proofs.tallies.is_left.Goals as goal

pub loop-process-init : goal.loop-process-init
loop-process-init g c = λ p lt. absurd (omega arith)
