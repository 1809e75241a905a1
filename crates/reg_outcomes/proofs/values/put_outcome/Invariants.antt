use Rattle.std.proofs.Common.{take}
use Rattle.std.specs.List.{flat_map}
use Rattle.reg_text.specs.Writing.{Puts}
use Rattle.reg_outcomes.specs.AllText.{told_text}
use Rattle.reg_outcomes.proofs.values.put_outcome.Given as goal

-- the values so far
abbrev pub invariant-loop-told : goal.invariant-loop-told
invariant-loop-told g l =
    Puts g.W.Write.contents l.initial.sink l.sink (flat_map told_text (take l.told-index l.outcome))
