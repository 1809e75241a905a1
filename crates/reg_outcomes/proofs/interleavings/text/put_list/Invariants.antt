use Rattle.std.proofs.Common.{take, ◌++◌, ◌∷◌, []}
use Rattle.std.specs.List.{flat_map}
use Rattle.reg_text.specs.Writing.{Puts}
use Rattle.reg_outcomes.specs.AllText.{values_text}
use Rattle.reg_outcomes.proofs.interleavings.text.put_list.Given as goal

-- the lines so far
abbrev pub invariant-loop-values : goal.invariant-loop-values
invariant-loop-values g l = Puts g.W.Write.contents l.initial.sink l.sink (flat_map (λ v. values_text v.items ++ 10 ∷ []) (take l.values-index l.list))
