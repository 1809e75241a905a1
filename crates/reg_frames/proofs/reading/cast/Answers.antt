use Rattle.std.proofs.Common.{arith}
use Rattle.std.proofs.lemmas.Grind.{common_steps}
use Rattle.reg_frames.proofs.reading.cast.Goals as goal

pub returns-then-bytes-lt-REGISTER_AT : goal.returns-then-bytes-lt-REGISTER_AT
returns-then-bytes-lt-REGISTER_AT c = grind (arith, common_steps)

pub bounds-bytes-21 : goal.bounds-bytes-21
bounds-bytes-21 c = omega arith

pub read_cast-requires : goal.read_cast-requires
read_cast-requires c = omega arith

pub returns-then-bytes-eq-READ : goal.returns-then-bytes-eq-READ
returns-then-bytes-eq-READ c = grind (arith, common_steps)

pub bounds-bytes-21-2 : goal.bounds-bytes-21-2
bounds-bytes-21-2 c = omega arith

pub write_cast-requires : goal.write_cast-requires
write_cast-requires c = omega arith

pub returns-then-bytes-eq-WRITE : goal.returns-then-bytes-eq-WRITE
returns-then-bytes-eq-WRITE c = grind (arith, common_steps)

pub returns : goal.returns
returns c = grind (arith, common_steps)
