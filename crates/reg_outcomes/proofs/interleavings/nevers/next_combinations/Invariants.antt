use Rattle.std.proofs.Common.{◌≡◌, [], ◌++◌, map}
use Rattle.reg_outcomes.specs.Combining.{AreOnce, Grows, IsLongerOf, lists_of}
use Rattle.reg_outcomes.proofs.interleavings.nevers.next_combinations.Given as goal

-- those of the combinations so far were added, each once
abbrev pub invariant-loop-combination : goal.invariant-loop-combination
invariant-loop-combination g l = (l.yielded ++ l.combination-iterator ≡ l.fn.combinations.keys) × Grows (IsLongerOf l.values.items (map (λ v. v.items) l.yielded)) [] (lists_of l.next) × AreOnce (lists_of l.next)
