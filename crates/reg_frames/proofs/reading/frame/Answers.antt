use Rattle.std.proofs.Common.{arith}
use Rattle.std.proofs.lemmas.Grind.{common_steps}
use Rattle.reg_frames.proofs.reading.frame.Goals as goal

pub returns-then-bytes-lt-GOT_SIZE : goal.returns-then-bytes-lt-GOT_SIZE
returns-then-bytes-lt-GOT_SIZE c = grind (arith, common_steps)

pub u16_at-requires : goal.u16_at-requires
u16_at-requires c = omega arith

pub overflow_sub-bytes : goal.overflow_sub-bytes
overflow_sub-bytes c = omega arith

pub returns-then-u16_at-bytes : goal.returns-then-u16_at-bytes
returns-then-u16_at-bytes c = grind (arith, common_steps)

pub bounds-bytes-2 : goal.bounds-bytes-2
bounds-bytes-2 c = omega arith

pub plain-requires : goal.plain-requires
plain-requires c = omega arith

pub returns-then-bytes-eq-PLAIN : goal.returns-then-bytes-eq-PLAIN
returns-then-bytes-eq-PLAIN c = grind (arith, common_steps)

pub bounds-bytes-2-2 : goal.bounds-bytes-2-2
bounds-bytes-2-2 c = omega arith

pub lone-requires : goal.lone-requires
lone-requires c = omega arith

pub returns-then-bytes-eq-SWAPPING : goal.returns-then-bytes-eq-SWAPPING
returns-then-bytes-eq-SWAPPING c = grind (arith, common_steps)

pub bounds-bytes-2-3 : goal.bounds-bytes-2-3
bounds-bytes-2-3 c = omega arith

pub lone-requires-then-bytes-eq-COMPARING : goal.lone-requires-then-bytes-eq-COMPARING
lone-requires-then-bytes-eq-COMPARING c = omega arith

pub returns-then-bytes-eq-COMPARING : goal.returns-then-bytes-eq-COMPARING
returns-then-bytes-eq-COMPARING c = grind (arith, common_steps)

pub returns : goal.returns
returns c = grind (arith, common_steps)
