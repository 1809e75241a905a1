use Rattle.std.proofs.Common.{◌≡◌, map, take}
use Rattle.std.specs.List.{filter}
use Rattle.reg_world.specs.Witnesses.{is_kept, point_of}
use Rattle.reg_world.proofs.witnesses.points_of.Given as goal

abbrev pub invariant-loop-first : goal.invariant-loop-first
invariant-loop-first g l = l.points.items ≡ map point_of (filter (is_kept l.callers) (take l.first-index l.order))
