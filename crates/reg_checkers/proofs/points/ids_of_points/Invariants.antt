use Rattle.std.proofs.Common.{◌≡◌, ◌≤◌, length, take}
use Rattle.std.specs.Prelude.{vec_capacity}
use Rattle.reg_checkers.specs.Checks.{ids_of}
use Rattle.reg_checkers.proofs.points.ids_of_points.Given as goal

abbrev pub invariant-loop-point : goal.invariant-loop-point
invariant-loop-point g l = record {
  items : l.ids.items ≡ ids_of (take l.point-index l.points);
  room : length l.points ≤ vec_capacity l.ids;
}
