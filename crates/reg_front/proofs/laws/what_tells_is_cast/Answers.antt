use Rattle.reg_front.proofs.Telling.{telling_cast, swap_cast, compare_and_swap_cast}
use Rattle.reg_front.proofs.laws.what_tells_is_cast.Goals as goal

pub returns-clause-all : goal.returns-clause-all
returns-clause-all c = telling_cast

pub returns-clause-swap : goal.returns-clause-swap
returns-clause-swap c = swap_cast

pub returns-clause-compare_and_swap : goal.returns-clause-compare_and_swap
returns-clause-compare_and_swap c = compare_and_swap_cast
