-- What follows of a point order: it respects real time, and so own order.
use Rattle.std.proofs.Common.{◌≡◌, ℕ, ◌<◌, ◌≤◌, ◌⊎◌, inl, inr, List, map, sym, subst, arith}
use Rattle.std.proofs.lemmas.Bool.{cases_order}
use Rattle.reg_base.specs.declared.memory.OpId.{OpId}
use Rattle.reg_base.specs.declared.memory.Op.{Op}
use Rattle.reg_base.specs.declared.memory.Answer.{Answer}
use Rattle.reg_checkers.specs.declared.entries.Entry.{Entry}
use Rattle.reg_checkers.specs.declared.entries.Point.{Point}
use Rattle.reg_checkers.specs.History.{IsAt, IsCalled, IsAnswered, WasCalled, IsHistory}
use Rattle.reg_checkers.specs.Orders.{KeepsOwnOrder, IsSerial, IsPointOrder}
use Rattle.reg_checkers.specs.Table.{MayStand}
use Rattle.reg_checkers.proofs.Places.{same_at, at_map}
use Rattle.reg_checkers.proofs.Histories.{answered_was_called, answered_before_next}

-- an operation answered before another's call stands before it
pub stands_before : (registers : ℕ) (h : List Entry) (ps : List Point) → IsPointOrder registers h ps
    → (i j : ℕ) (p q : Point) → IsAt ps i p → IsAt ps j q
    → (s t : ℕ) (answer : Answer) (op : Op) → IsAnswered h p.id s answer → IsCalled h q.id t op → s < t → i < j
stands_before registers h ps order i j p q at1 at2 s t answer op ans call lt =
    let low : p.at ≤ s = order.answered i p s answer at1 ans in
    let high : t ≤ q.at = order.called j q t op at2 call in
    let less : p.at < q.at = omega arith in
    go (cases_order i j) less
  where
    not_less : {u v : Point} → u ≡ v → u.at < v.at → ⊥
    not_less e lt = grind arith

    go : (i ≡ j) ⊎ ((i < j) ⊎ (j < i)) → p.at < q.at → i < j
    go (inl e) less = absurd (not_less (same_at ps j p q (subst (λ (k : ℕ). IsAt ps k p) e at1) at2) less)
    go (inr (inl h)) less = h
    go (inr (inr g)) less = let ge : q.at ≤ p.at = order.rising j i q p at2 at1 g in absurd (omega arith)

stood_called : (n registers : ℕ) (h : List Entry) → IsHistory n registers h → (id : OpId) → MayStand h id
    → WasCalled h id
stood_called n registers h good id (inl fin) = answered_was_called n registers h good id fin.0 fin.1 fin.2
stood_called n registers h good id (inr call) = (call.0, call.1, call.2)

-- so a point order is a serial order
pub point_order_is_serial : (n registers : ℕ) (h : List Entry) (ps : List Point) → IsHistory n registers h
    → IsPointOrder registers h ps → IsSerial registers h (map (λ p. p.id) ps)
point_order_is_serial n registers h ps good order =
    record { selection = order.selection; legal = order.legal; own_order = own }
  where
    own : KeepsOwnOrder (map (λ p. p.id) ps)
    own i j a b at1 at2 same lt =
        let p = at_map (λ (p : Point). p.id) ps i a at1 in
        let q = at_map (λ (p : Point). p.id) ps j b at2 in
        let was = stood_called n registers h good a (order.selection.known i a at1) in
        let call = stood_called n registers h good b (order.selection.known j b at2) in
        let answered = answered_before_next n registers h good a b call.0 call.1 was call.2 same lt in
        stands_before registers h ps order i j p.0 q.0 p.1 q.1 answered.0 call.0 answered.1 call.1
        (subst (λ (x : OpId). IsAnswered h x answered.0 answered.1) (sym p.2) answered.2)
        (subst (λ (x : OpId). IsCalled h x call.0 call.1) (sym q.2) call.2)
        answered.3
