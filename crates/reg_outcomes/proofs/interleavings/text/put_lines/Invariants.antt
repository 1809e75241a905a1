use Rattle.std.proofs.Common.{take, ◌++◌, ◌∷◌, []}
use Rattle.std.specs.List.{flat_map}
use Rattle.reg_text.specs.Writing.{Puts}
use Rattle.reg_outcomes.specs.AllText.{outcome_text}
use Rattle.reg_outcomes.proofs.interleavings.text.put_lines.Given as goal

-- the lines so far
abbrev pub invariant-loop-outcome : goal.invariant-loop-outcome
invariant-loop-outcome g l = Puts g.W.Write.contents l.initial.sink l.sink (flat_map (λ i. outcome_text i ++ 10 ∷ []) (take l.outcome-index l.outcomes))
