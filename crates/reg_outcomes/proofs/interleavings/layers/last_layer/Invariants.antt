use Rattle.std.proofs.Common.{map}
use Rattle.reg_outcomes.specs.Layers.{entries_of}
use Rattle.reg_outcomes.proofs.Layering.{IsOnTheWay}
use Rattle.reg_outcomes.proofs.interleavings.layers.last_layer.Given as goal

-- the layer after the turns so far
abbrev pub invariant-loop-turn : goal.invariant-loop-turn
invariant-loop-turn g l =
    IsOnTheWay (map (λ v. v.items) l.scripts) l.registers l.limit l._turn (entries_of l.layer) l.stages
