use Rattle.std.proofs.Common.{◌++◌, codes, take}
use Rattle.std.specs.Fmt.{decimal}
use Rattle.std.specs.List.{flat_map}
use Rattle.reg_text.specs.Writing.{Puts}
use Rattle.reg_outcomes.proofs.interleavings.text.put_turns.Given as goal

-- the turns so far
abbrev pub invariant-loop-turn : goal.invariant-loop-turn
invariant-loop-turn g l =
    Puts g.W.Write.contents l.initial.sink l.sink (flat_map (λ p. codes " " ++ decimal p) (take l.turn-index l.turns))
