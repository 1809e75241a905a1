use Rattle.std.proofs.Common.{map}
use Rattle.reg_outcomes.specs.Layers.{IsStep}
use Rattle.reg_outcomes.proofs.Stepping.{IsUnderWay}
use Rattle.reg_outcomes.proofs.interleavings.layers.next_layer.Given as goal

-- what follows the entries so far was added
abbrev pub invariant-loop-stage : goal.invariant-loop-stage
invariant-loop-stage g l =
    IsUnderWay (IsStep (map (λ v. v.items) l.scripts)) l.limit l.yielded l.stage-iterator l.fn.layer.entries l.next
