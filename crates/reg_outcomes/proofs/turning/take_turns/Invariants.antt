use Rattle.std.proofs.Common.{map}
use Rattle.reg_outcomes.specs.Layers.{stage_of}
use Rattle.reg_outcomes.proofs.Turns.{IsUnderWay}
use Rattle.reg_outcomes.proofs.turning.take_turns.Given as goal

-- the turns so far were made
abbrev pub invariant-loop-turn : goal.invariant-loop-turn
invariant-loop-turn g l =
    IsUnderWay g.F.FrontEnd.start (map (λ v. v.items) l.scripts) l.registers l.outcome l.turn (stage_of l.stage) l.world
