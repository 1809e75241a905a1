use Rattle.std.proofs.Common.{◌≡◌, None, replicate}
use Rattle.reg_node.proofs.chapters.Chapter.new.Given as goal

abbrev pub invariant-loop-process : goal.invariant-loop-process
invariant-loop-process g l = l.told.items ≡ replicate l._process None
