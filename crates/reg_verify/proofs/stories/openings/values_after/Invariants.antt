use Rattle.std.proofs.Common.{◌≡◌, List, length, take}
use Rattle.reg_base.specs.declared.memory.Op.{Op}
use Rattle.reg_base.specs.Memory.{memory}
use Rattle.reg_checkers.specs.Checks.{AreCalled}
use Rattle.reg_verify.proofs.stories.openings.values_after.Given as goal

-- the values are those after the operations so far
abbrev pub invariant-loop-place : goal.invariant-loop-place
invariant-loop-place g l = record {
  ends : (ops : List Op) × AreCalled l.report.entries (take l.place l.order) ops × (l.values.items ≡ memory l.report.shape.registers ops);
  room : length l.values.items ≡ l.report.shape.registers;
}
