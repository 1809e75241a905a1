use Rattle.std.proofs.Common.{◌≡◌, take}
use Rattle.reg_judge.proofs.judge.first_part.Given as goal

abbrev pub invariant-loop-place : goal.invariant-loop-place
invariant-loop-place g l = record {
  entries : l.part.entries ≡ take l.place l.fn.history.entries;
  shape : l.part.shape ≡ l.fn.history.shape;
}
