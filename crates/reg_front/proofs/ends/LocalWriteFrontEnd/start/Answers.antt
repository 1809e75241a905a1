use Rattle.std.proofs.Common.{rules}
use Rattle.reg_front.proofs.ends.LocalWriteFrontEnd.start.Goals as goal

pub returns-in-Swap : goal.returns-in-Swap
returns-in-Swap c = search rules

pub returns-in-CompareAndSwap : goal.returns-in-CompareAndSwap
returns-in-CompareAndSwap c = search rules
