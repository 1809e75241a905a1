use Rattle.std.proofs.Common.{◌≡◌, take}
use Rattle.reg_outcomes.specs.Walking.{ids_of}
use Rattle.reg_outcomes.proofs.orders.walk.Walk.ids.Given as goal

-- the ids of the steps so far
abbrev pub invariant-loop-step : goal.invariant-loop-step
invariant-loop-step g l = l.ids.items ≡ ids_of (take l.step-index l.step-items)
