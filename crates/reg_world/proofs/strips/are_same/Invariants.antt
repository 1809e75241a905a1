use Rattle.std.proofs.Common.{◌≡◌, take}
use Rattle.reg_world.proofs.strips.are_same.Given as goal

abbrev pub invariant-loop-place : goal.invariant-loop-place
invariant-loop-place g l = take l.place l.some ≡ take l.place l.others
