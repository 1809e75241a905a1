use Rattle.std.proofs.Common.{◌≤◌}
use Rattle.reg_live.proofs.roads.Posts.stop.Given as goal

abbrev pub invariant-loop-one : goal.invariant-loop-one
invariant-loop-one g l = l.notices ≤ l.one-index
