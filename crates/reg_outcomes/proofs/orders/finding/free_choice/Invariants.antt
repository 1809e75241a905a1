use Rattle.std.proofs.Common.{◌-◌, ◌≤◌}
use Rattle.reg_outcomes.specs.Layers.{stage_of}
use Rattle.reg_outcomes.specs.Walking.{AreTried}
use Rattle.reg_outcomes.proofs.orders.finding.free_choice.Given as goal

-- what was tried, and what need not be, leads to no order
abbrev pub invariant-choices : goal.invariant-choices
invariant-choices g l =
    (l.walk.tried ≤ l.tried) × AreTried l.finder.kind l.finder.entries (stage_of l.walk.stage) l.tried

-- the choices that are left
abbrev pub decreases-choices : goal.decreases-choices
decreases-choices g l = 18446744073709551616 - l.tried
