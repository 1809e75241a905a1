use Rattle.std.proofs.Common.{◌≡◌, vec_len}
use Rattle.reg_live.proofs.closing.lists_below.Given as goal

abbrev pub invariant-loop-process : goal.invariant-loop-process
invariant-loop-process g l = vec_len l.lists ≡ l.process
