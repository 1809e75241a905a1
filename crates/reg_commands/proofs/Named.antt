-- What holds under a front end that has a name holds under that name.
use Rattle.std.proofs.Common.{◌≡◌, ℕ, ◌≤◌, List, Option, Some, None, Result, Ok, Err, refl, ap, sym, ◌∙◌, subst}
use Rattle.std.specs.Prelude.{IfOk}
use Rattle.reg_base.specs.declared.limits.TheConstants.{LAST_EVENT}
use Rattle.reg_base.specs.declared.memory.Op.{Op}
use Rattle.reg_front.specs.declared.starts.Start.{Start}
use Rattle.reg_front.specs.declared.named.Front.{Front}
use Rattle.reg_front.specs.declared.named.Front.TheVariants.{Linear, LocalRead, LocalWrite}
use Rattle.reg_checkers.specs.declared.entries.Entry.{Entry}
use Rattle.reg_checkers.specs.declared.entries.Point.{Point}
use Rattle.reg_checkers.specs.History.{IsAt}
use Rattle.reg_checkers.specs.Orders.{IsPointOrder}
use Rattle.reg_world.specs.declared.order.First.{First}
use Rattle.reg_world.specs.Fronts.{HasPoints}
use Rattle.reg_world.specs.World.{run_of}
use Rattle.reg_world.specs.Worlds.{Made, run_in, after_events}
use Rattle.reg_front.specs.Table.{linear, start_of}
use Rattle.reg_history.specs.Reports.{Contents}
use Rattle.reg_inputs.specs.Schedules.{Plan}
use Rattle.reg_commands.specs.Replays.{plan_in, PointsOf, PointsStand}
use Rattle.reg_commands.proofs.AtEvents.{points_at_events}
use Rattle.reg_commands.proofs.Shown.{same_plan}

-- each first delivery is at an event that a run may have
abbrev pub FirstsAtEvents : (Op → ℕ → Start) → Made → Type 0
FirstsAtEvents start w = (k : ℕ) (f : First) → IsAt (run_in start w).order k f → f.at ≤ LAST_EVENT

pub points_stand : (start : Op → ℕ → Start) (front : Front) (w : Made) (points : Option (List Point))
    → start ≡ start_of front → FirstsAtEvents start w → w.history ≡ (run_in start w).history → HasPoints front w points
    → PointsStand w.registers w.history points
points_stand start Linear w None named firsts history has = absurd has
points_stand start Linear w (Some ps) named firsts history has = (
  subst (λ (h : List Entry). IsPointOrder w.registers h ps) (sym (history ∙ ap (λ (s : Op → ℕ → Start). (run_in s w).history) named)) has.ordered,
  points_at_events (run_of w.registers (run_in linear w)) ps has.points (subst (λ (s : Op → ℕ → Start). FirstsAtEvents s w) named firsts),
)
points_stand start LocalRead w points named firsts history has = subst (PointsStand w.registers w.history) (sym has) tt
points_stand start LocalWrite w points named firsts history has = subst (PointsStand w.registers w.history) (sym has) tt

-- the points of a world are those of what it did
pub points_in : (front asked : Front) (names : List (List ℕ)) (w : Made) (points : Option (List Point))
    → HasPoints front w points → PointsOf front (plan_in asked names w) points
points_in Linear asked names w None has = absurd has
points_in Linear asked names w (Some ps) has = has.points
points_in LocalRead asked names w points has = has
points_in LocalWrite asked names w points has = has

pub points_shown : {E : Type 0} (front asked : Front) (names : List (List ℕ)) (w : Made) (report : Result Contents E)
    (points : Option (List Point))
    → HasPoints front w points → IfOk report (λ r. r.points ≡ points)
    → IfOk report (λ r. PointsOf front (plan_in asked names w) r.points)
points_shown front asked names w (Ok r) points has told =
    subst (PointsOf front (plan_in asked names w)) (sym told) (points_in front asked names w points has)
points_shown front asked names w (Err e) points has told = tt

-- a run of a plan's events has the points of the plan
pub points_planned : {E : Type 0} (front : Front) (p q : Plan) (report : Result Contents E) → p ≡ q
    → IfOk report (λ r. PointsOf front p r.points) → IfOk report (λ r. PointsOf front q r.points)
points_planned front p q report same shown =
    subst (λ (x : Plan). IfOk report (λ r. PointsOf front x r.points)) same shown

-- the points of a run of a plan's events are those of the plan
pub points_of_plan : (start : Op → ℕ → Start) (front : Front) (p : Plan) (w : Made) (points : Option (List Point))
    → w ≡ after_events start p.shape p.events → HasPoints front w points → PointsOf front p points
points_of_plan start front p w points is has = subst (λ (q : Plan). PointsOf front q points) (same_plan start p p.front p.names w is refl refl) (points_in front p.front p.names w points has)
