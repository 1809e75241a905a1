use Rattle.std.proofs.Common.{◌≡◌, drop}
use Rattle.reg_outcomes.specs.Nevers.{tells}
use Rattle.reg_outcomes.specs.Combining.{cut_all}
use Rattle.reg_outcomes.proofs.interleavings.nevers.remove_told.Given as goal

-- the outcomes that are left are cut out of what is left
abbrev pub invariant-loop-outcome : goal.invariant-loop-outcome
invariant-loop-outcome g l = cut_all (λ v. v.items) (drop l.outcome-index (tells l.outcomes)) l.combinations.keys ≡ cut_all (λ v. v.items) (tells l.outcomes) l.initial.combinations.keys
