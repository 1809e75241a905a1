use Rattle.std.proofs.Common.{arith}
use Rattle.reg_records.proofs.finding.first_place.Goals as goal

pub loop-place-init : goal.loop-place-init
loop-place-init g c = λ k lt. absurd (omega arith)
