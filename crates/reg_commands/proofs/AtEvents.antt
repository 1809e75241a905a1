-- The points of a run are at events that a run may have.
use Rattle.std.proofs.Common.{◌≡◌, ℕ, ◌≤◌, List, ap, subst, arith}
use Rattle.reg_base.specs.declared.limits.TheConstants.{LAST_EVENT}
use Rattle.reg_checkers.specs.declared.entries.Point.{Point}
use Rattle.reg_checkers.specs.History.{IsAt}
use Rattle.reg_checkers.proofs.Places.{at_map}
use Rattle.reg_world.specs.declared.order.First.{First}
use Rattle.reg_world.specs.Keys.{ArePoints}
use Rattle.reg_world.specs.Runs.{Run}
use Rattle.reg_commands.specs.Replays.{AreAtEvents}
use Rattle.reg_world.proofs.witness.Points.{keeps_at}

pub points_at_events : (r : Run) (ps : List Point) → ArePoints r ps
    → ((k : ℕ) (f : First) → IsAt r.order k f → f.at ≤ LAST_EVENT) → AreAtEvents ps
points_at_events r ps (cs, keeps, made) firsts k p here =
    let from : (c : First) × IsAt cs k c × (record { id = c.id; at = c.at } ≡ p) = at_map (λ (c : First). record { id = c.id; at = c.at }) cs k p (subst (λ (l : List Point). IsAt l k p) made here) in
    let there : (i : ℕ) × IsAt r.order i from.0 = keeps_at keeps k from.0 from.1 in
    let low : from.0.at ≤ LAST_EVENT = firsts there.0 from.0 there.1 in
    let same : from.0.at ≡ p.at = ap (λ (q : Point). q.at) from.2 in
    omega arith
