-- The points of runs under the front ends that texts can name.
use Rattle.std.specs.Prelude.{◌≡◌, List, Option, Some, None}
use Rattle.reg_front.specs.declared.named.Front.{Front}
use Rattle.reg_front.specs.declared.named.Front.TheVariants.{Linear, LocalRead, LocalWrite}
use Rattle.reg_front.specs.Table.{linear}
use Rattle.reg_checkers.specs.declared.entries.Point.{Point}
use Rattle.reg_checkers.specs.Orders.{IsPointOrder}
use Rattle.reg_world.specs.Keys.{ArePoints}
use Rattle.reg_world.specs.World.{run_of}
use Rattle.reg_world.specs.Worlds.{Made, run_in}

-- the points of a run of `linear`: a point order of its history
pub record ArePointsIn (w : Made) (ps : List Point) : Type 0 where
  pub points : ArePoints (run_of w.registers (run_in linear w)) ps
  pub ordered : IsPointOrder w.registers (run_in linear w).history ps

-- whether a run has points, and which, by its front end
abbrev pub HasPoints : Front → Made → Option (List Point) → Type 0
HasPoints Linear w None = ⊥
HasPoints Linear w (Some ps) = ArePointsIn w ps
HasPoints LocalRead w points = points ≡ None
HasPoints LocalWrite w points = points ≡ None
