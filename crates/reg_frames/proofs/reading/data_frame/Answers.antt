use Rattle.std.proofs.Common.{arith}
use Rattle.std.proofs.lemmas.Grind.{common_steps}
use Rattle.reg_frames.proofs.reading.data_frame.Goals as goal

pub returns-then-bytes-lt-TIME_AT : goal.returns-then-bytes-lt-TIME_AT
returns-then-bytes-lt-TIME_AT c = grind (arith, common_steps)

pub bounds-bytes-12 : goal.bounds-bytes-12
bounds-bytes-12 c = omega arith

pub returns-then-bytes-eq-CAST : goal.returns-then-bytes-eq-CAST
returns-then-bytes-eq-CAST c = grind (arith, common_steps)

pub bounds-bytes-12-2 : goal.bounds-bytes-12-2
bounds-bytes-12-2 c = omega arith

pub acknowledgement-requires : goal.acknowledgement-requires
acknowledgement-requires c = omega arith

pub returns-then-bytes-eq-ACK : goal.returns-then-bytes-eq-ACK
returns-then-bytes-eq-ACK c = grind (arith, common_steps)

pub returns : goal.returns
returns c = grind (arith, common_steps)
