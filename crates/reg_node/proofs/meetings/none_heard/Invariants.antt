use Rattle.std.proofs.Common.{◌≡◌, false, replicate}
use Rattle.reg_node.proofs.meetings.none_heard.Given as goal

abbrev pub invariant-loop-process : goal.invariant-loop-process
invariant-loop-process g l = l.heard.items ≡ replicate l._process false
