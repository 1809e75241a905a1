use Rattle.std.proofs.Common.{◌≡◌, ◌++◌, length}
use Rattle.reg_holdback.proofs.held.HeldCasts.list.Given as goal

-- what was listed and what is left make up the whole
abbrev pub invariant-loop-cast : goal.invariant-loop-cast
invariant-loop-cast g l = l.list.items ++ l.rest ≡ l.self

abbrev pub decreases-loop-cast : goal.decreases-loop-cast
decreases-loop-cast g l = length l.rest
