use Rattle.reg_world.proofs.witness.Waiting.{tells_waits, read_waits, swap_waits, compare_and_swap_waits, linear_waits}
use Rattle.reg_world.proofs.witness.Waiting.{local_read_waits}
use Rattle.reg_world.proofs.laws.what_waits.Goals as goal

pub returns-clause-tells : goal.returns-clause-tells
returns-clause-tells c = tells_waits

pub returns-clause-read : goal.returns-clause-read
returns-clause-read c = read_waits

pub returns-clause-swap : goal.returns-clause-swap
returns-clause-swap c = swap_waits

pub returns-clause-compare_and_swap : goal.returns-clause-compare_and_swap
returns-clause-compare_and_swap c = compare_and_swap_waits

pub returns-clause-linear : goal.returns-clause-linear
returns-clause-linear c = linear_waits

pub returns-clause-local_read : goal.returns-clause-local_read
returns-clause-local_read c = local_read_waits
