-- In a history, what a process called after an answer of its own has the larger number: so own order is its real time.
use Rattle.std.proofs.Common.{◌≡◌, ℕ, ◌<◌, ◌⊎◌, inl, inr, List, take, refl, ap, ◌∙◌, subst, arith}
use Rattle.std.proofs.lemmas.Bool.{cases_order}
use Rattle.reg_base.specs.declared.memory.OpId.{OpId}
use Rattle.reg_checkers.specs.declared.entries.Entry.{Entry}
use Rattle.reg_checkers.specs.declared.entries.Entry.TheVariants.{Called, Answered}
use Rattle.reg_checkers.specs.History.{IsAt, WasCalled, IsHistory, MayAnswer}
use Rattle.reg_checkers.specs.Orders.{IsSerial}
use Rattle.reg_checkers.proofs.Places.{same_at, at_take, in_take}
use Rattle.reg_checkers.proofs.Histories.{events_rise}
use Rattle.reg_world.specs.RealTime.{IsEarlier, KeepsOwnTime}

number_rises : (n registers : ℕ) (h : List Entry) → IsHistory n registers h → (a b : OpId) → IsEarlier h a b
    → a.process ≡ b.process → a.number < b.number
number_rises n registers h good a b (s, t, answer, op, (i, ans), (j, call), less) same = go (cases_order i j)
  where
    not_same : {x y : Entry} → x ≡ y → x ≡ Answered s a answer → y ≡ Called t b op → ⊥
    not_same e p q = cc

    go : (i ≡ j) ⊎ ((i < j) ⊎ (j < i)) → a.number < b.number
    go (inl e) = absurd (not_same (same_at h j (Answered s a answer) (Called t b op) (subst (λ (k : ℕ). IsAt h k (Answered s a answer)) e ans) call) refl refl)
    go (inr (inl before)) =
        let may : MayAnswer (take i h) s a answer = good i (Answered s a answer) ans in
        let there = in_take h i may.called.0 (Called may.called_at a may.op) may.called.1 in
        let ids : a ≡ record { process = b.process; number = a.number } = ap (λ (x : ℕ). record { process = x; number = a.number }) same in
        let was : WasCalled (take j h) (record { process = b.process; number = a.number }) = subst (λ (x : OpId). WasCalled (take j h) x) ids (may.called_at, may.op, (may.called.0, at_take h j may.called.0 (let z = there.0 in omega (arith, z, before)) ∙ there.1)) in
        ((good j (Called t b op) call).next a.number).1 was
    go (inr (inr after)) = let z = events_rise n registers h good j i (Called t b op) (Answered s a answer) call ans after in absurd (omega (arith, z, less))

pub own_time : (n registers : ℕ) (h : List Entry) (ids : List OpId) → IsHistory n registers h → IsSerial registers h ids
    → KeepsOwnTime h ids
own_time n registers h ids good serial i j a b at1 at2 earlier same =
    serial.own_order i j a b at1 at2 same (number_rises n registers h good a b earlier same)
