use Rattle.std.proofs.Common.{◌≡◌, ◌++◌, map}
use Rattle.reg_outcomes.specs.Layers.{interleaving_of}
use Rattle.reg_outcomes.proofs.interleavings.outcomes.listed.Given as goal

-- the outcomes so far, and those that are left
abbrev pub invariant-loop-told : goal.invariant-loop-told
invariant-loop-told g l =
    l.list.items ++ map interleaving_of l.told-iterator ≡ map interleaving_of l.fn.outcomes.entries
