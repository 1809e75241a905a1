use Rattle.reg_outcomes.specs.Nevers.{tells}
use Rattle.reg_outcomes.specs.Combining.{AreCombinations, lists_of}
use Rattle.reg_outcomes.proofs.interleavings.nevers.all_combinations.Given as goal

-- the combinations with so many places
abbrev pub invariant-loop-place : goal.invariant-loop-place
invariant-loop-place g l = AreCombinations (tells l.outcomes) l.place (lists_of l.combinations)
