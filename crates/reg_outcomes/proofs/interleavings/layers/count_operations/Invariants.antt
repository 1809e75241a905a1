use Rattle.std.proofs.Common.{◌≡◌, length, take}
use Rattle.std.specs.List.{sum_by}
use Rattle.reg_outcomes.proofs.interleavings.layers.count_operations.Given as goal

-- those of the scripts so far
abbrev pub invariant-loop-script : goal.invariant-loop-script
invariant-loop-script g l = l.count ≡ sum_by (λ s. length s.items) (take l.script-index l.scripts)
