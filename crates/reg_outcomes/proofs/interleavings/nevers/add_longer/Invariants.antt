use Rattle.std.proofs.Common.{take}
use Rattle.reg_outcomes.specs.Combining.{Grows, IsLonger, lists_of}
use Rattle.reg_outcomes.proofs.interleavings.nevers.add_longer.Given as goal

-- those with one of the values so far were added
abbrev pub invariant-loop-value : goal.invariant-loop-value
invariant-loop-value g l = Grows (IsLonger (take l.value-index l.values) l.combination) (lists_of l.initial.combinations) (lists_of l.combinations)
