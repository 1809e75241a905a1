-- What the search tells of the serial orders of a history, and that an overtaken operation leaves no room for points.
use Rattle.std.proofs.Common.{◌≡◌, ℕ, suc, ◌<◌, ◌⊎◌, inl, inr, true, false, List, length, map, replicate, sym, ap, ◌∙◌}
use Rattle.std.proofs.Common.{subst, arith}
use Rattle.std.specs.Prelude.{slice_get}
use Rattle.std.proofs.lemmas.Bool.{cases_order, false≢true}
use Rattle.std.proofs.lemmas.Option.{same_Some}
use Rattle.reg_base.specs.declared.memory.OpId.{OpId}
use Rattle.reg_base.specs.declared.memory.Op.{Op}
use Rattle.reg_front.specs.declared.starts.Start.{Start}
use Rattle.reg_front.specs.Fronts.{KeepsLaws}
use Rattle.reg_checkers.specs.declared.entries.Entry.{Entry}
use Rattle.reg_checkers.specs.declared.entries.Point.{Point}
use Rattle.reg_checkers.specs.History.{IsAt, IsCalled, IsAnswered, IsHistory}
use Rattle.reg_checkers.specs.Orders.{IsSerial, IsPointOrder}
use Rattle.reg_checkers.proofs.Places.{at_map}
use Rattle.reg_checkers.proofs.RealTime.{stands_before, point_order_is_serial}
use Rattle.reg_process.specs.declared.events.Event.{Event}
use Rattle.reg_world.proofs.witness.Promised.{in_place}
use Rattle.reg_records.specs.Overtaking.{Gives, Overtakes}
use Rattle.reg_records.proofs.Search.{is_id, always_before}
use Rattle.reg_records.proofs.Arranged.{same_is_id, never_before}
use Rattle.reg_records.proofs.Facts.{facts_in, arranged}

-- the history of a run is in place
pub given_in_place : (start : Op → ℕ → Start) (n registers : ℕ) (events : List Event) (h : List Entry) → KeepsLaws start
    → Gives start n registers events h → IsHistory n registers h
given_in_place start n registers events h laws gives =
    subst (IsHistory n registers) gives.history (in_place start n registers laws events)

-- every serial order has b before a
pub always : (n registers : ℕ) (h : List Entry) → IsHistory n registers h → (b a : OpId) → is_id b a ≡ false
    → always_before b a (suc (length (facts_in h h))) (facts_in h h) (replicate registers 0) ≡ true
    → (ids : List OpId) → IsSerial registers h ids → (i j : ℕ) → IsAt ids i b → IsAt ids j a → i < j
always n registers h good b a apart found ids serial i j at1 at2 = go (cases_order i j)
  where
    go : (i ≡ j) ⊎ ((i < j) ⊎ (j < i)) → i < j
    go (inl e) = absurd (false≢true (sym apart ∙ same_is_id b a (same_Some b a (sym at1 ∙ (ap (slice_get ids) e ∙ at2)))))
    go (inr (inl less)) = less
    go (inr (inr more)) =
        let xs = arranged n registers h good ids serial in
        absurd (never_before b a (suc (length (facts_in h h))) (facts_in h h) (replicate registers 0) xs.0 found xs.2 j i (subst (λ (l : List OpId). IsAt l j a) (sym xs.1) at2) (subst (λ (l : List OpId). IsAt l i b) (sym xs.1) at1) more)

-- no point order has both in their real time and in that order
pub no_points : (n registers : ℕ) (h : List Entry) (a b : OpId) → IsHistory n registers h → Overtakes registers h b a
    → (points : List Point) → IsPointOrder registers h points → ⊥
no_points n registers h a b good over points order =
    let e = over.earlier in
    let i = order.selection.finished b over.finished in
    let j = order.selection.finished a (e.0, e.2, e.4) in
    let less = over.always (map (λ p. p.id) points) (point_order_is_serial n registers h points good order) i.0 j.0 i.1 j.1 in
    let p = at_map (λ (x : Point). x.id) points j.0 a j.1 in
    let q = at_map (λ (x : Point). x.id) points i.0 b i.1 in
    let other = stands_before registers h points order j.0 i.0 p.0 q.0 p.1 q.1 e.0 e.1 e.2 e.3
    (subst (λ (x : OpId). IsAnswered h x e.0 e.2) (sym p.2) e.4) (subst (λ (x : OpId). IsCalled h x e.1 e.3) (sym q.2) e.5) e.6 in
    let z : ⊥ = omega (arith, less, other) in z
