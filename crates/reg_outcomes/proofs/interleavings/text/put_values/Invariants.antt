use Rattle.std.proofs.Common.{◌++◌, codes, take}
use Rattle.std.specs.List.{flat_map}
use Rattle.reg_text.specs.Writing.{Puts}
use Rattle.reg_outcomes.specs.AllText.{value_text}
use Rattle.reg_outcomes.proofs.interleavings.text.put_values.Given as goal

-- the values so far
abbrev pub invariant-loop-value : goal.invariant-loop-value
invariant-loop-value g l = Puts g.W.Write.contents l.initial.sink l.sink (flat_map (λ u. codes "  " ++ value_text u) (take l.value-index l.others))
