use Rattle.std.proofs.Common.{◌≡◌, ◌++◌}
use Rattle.reg_outcomes.proofs.interleavings.nevers.listed_within.Given as goal

-- the combinations so far, and those that are left
abbrev pub invariant-loop-combination : goal.invariant-loop-combination
invariant-loop-combination g l = l.list.items ++ l.combination-iterator ≡ l.fn.combinations.keys
