-- What marking an operation leaves.
use Rattle.std.proofs.Common.{◌≡◌, ◌≢◌, ℕ, ◌+◌, ◌<◌, ◌≤◌, ◌⊎◌, inl, inr, ◌↔◌, List, [], length, Some, Bool, false, true}
use Rattle.std.proofs.Common.{IsSome, is_some, slice_get, refl, ap, sym, ◌∙◌, subst, arith}
use Rattle.std.proofs.lemmas.Option.{same_Some, slice_get_within}
use Rattle.std.proofs.lemmas.Bool.{cases_order}
use Rattle.reg_base.specs.declared.memory.OpId.{OpId}
use Rattle.reg_base.specs.declared.memory.Answer.{Answer}
use Rattle.reg_checkers.specs.declared.entries.Entry.{Entry}
use Rattle.reg_checkers.specs.declared.entries.Entry.TheVariants.{Answered}
use Rattle.reg_checkers.specs.History.{IsAt}
use Rattle.reg_checkers.specs.Orders.{IsDistinct}
use Rattle.reg_checkers.specs.Checks.{HasTwice}
use Rattle.reg_checkers.proofs.Places.{same_id}
use Rattle.reg_checkers.specs.declared.facts.Fact.{Fact}
use Rattle.reg_checkers.specs.Table.{Rows, cell, IsChangedAt, Marked, AreMarked, IsMarkedToo, IsUnmarked}

pub mark_step : {A : Type 0} (rows rows' : Rows A) (id : OpId) (f : Fact) → cell rows id ≡ Some f → f.stands ≡ false
    → IsChangedAt rows rows' id (record { op = f.op; called = f.called; answered = f.answered; stands = true }) → IsMarkedToo rows rows' id
mark_step rows rows' id f was off changed = record { before = before; marks = marks; known = known }
  where
    clash : {b : Bool} → b ≡ false → b ≡ true → ⊥
    clash p q = cc

    before : ¬ Marked rows id
    before (g, e, on) = clash off (ap (λ (x : Fact). x.stands) (same_Some f g (sym was ∙ e)) ∙ on)

    marks : (x : OpId) → Marked rows' x ↔ (Marked rows x ⊎ (x ≡ id))
    marks x = (there (same_id x id), back)
      where
        there : (x ≡ id) ⊎ (x ≢ id) → Marked rows' x → Marked rows x ⊎ (x ≡ id)
        there (inl e) h = inr e
        there (inr other) (g, e, on) = inl (g, sym (changed.others x other) ∙ e, on)

        here : x ≡ id → Marked rows' x
        here e = (record { op = f.op; called = f.called; answered = f.answered; stands = true }, ap (λ (y : OpId). cell rows' y) e ∙ changed.here, refl)

        keep : (x ≡ id) ⊎ (x ≢ id) → Marked rows x → Marked rows' x
        keep (inl e) h = here e
        keep (inr other) (g, e, on) = (g, changed.others x other ∙ e, on)

        back : Marked rows x ⊎ (x ≡ id) → Marked rows' x
        back (inl h) = keep (same_id x id) h
        back (inr e) = here e

    known : (x : OpId) → IsSome (cell rows x) → IsSome (cell rows' x)
    known x h = go (same_id x id)
      where
        go : (x ≡ id) ⊎ (x ≢ id) → IsSome (cell rows' x)
        go (inl e) = ap is_some (ap (λ (y : OpId). cell rows' y) e ∙ changed.here)
        go (inr other) = ap is_some (changed.others x other) ∙ h

-- exactly the first k ids are marked
abbrev pub MarkedUpTo : {A : Type 0} → Rows A → List OpId → ℕ → Type 0
MarkedUpTo rows ids k = (id : OpId) → Marked rows id ↔ ((j : ℕ) × (j < k) × IsAt ids j id)

-- the first k ids are distinct
abbrev pub DistinctUpTo : List OpId → ℕ → Type 0
DistinctUpTo ids k = (i j : ℕ) (id : OpId) → i < k → j < k → IsAt ids i id → IsAt ids j id → i ≡ j

pub marked_more : {A : Type 0} (rows rows' : Rows A) (ids : List OpId) (k : ℕ) (id : OpId) → IsAt ids k id
    → MarkedUpTo rows ids k → IsMarkedToo rows rows' id → MarkedUpTo rows' ids (k + 1)
marked_more rows rows' ids k id here upto more x = (there, back)
  where
    there : Marked rows' x → (j : ℕ) × (j < k + 1) × IsAt ids j x
    there h = go ((more.marks x).0 h)
      where
        go : Marked rows x ⊎ (x ≡ id) → (j : ℕ) × (j < k + 1) × IsAt ids j x
        go (inl m) = let r = (upto x).0 m in (r.0, omega (arith, r.1), r.2)
        go (inr e) = (k, omega arith, here ∙ ap Some (sym e))

    back : (j : ℕ) × (j < k + 1) × IsAt ids j x → Marked rows' x
    back (j, lt, at) = go (cases_order j k)
      where
        go : (j ≡ k) ⊎ ((j < k) ⊎ (k < j)) → Marked rows' x
        go (inl e) = (more.marks x).1 (inr (same_Some x id (sym at ∙ (ap (λ (i : ℕ). slice_get ids i) e ∙ here))))
        go (inr (inl h)) = (more.marks x).1 (inl ((upto x).1 (j, h, at)))
        go (inr (inr h)) = absurd (omega arith)

pub distinct_more : {A : Type 0} (rows : Rows A) (ids : List OpId) (k : ℕ) (id : OpId) → IsAt ids k id
    → MarkedUpTo rows ids k → ¬ Marked rows id → DistinctUpTo ids k → DistinctUpTo ids (k + 1)
distinct_more rows ids k id here upto fresh distinct i j x lt1 lt2 at1 at2 = go (cases_order i k) (cases_order j k)
  where
    again : (j : ℕ) → j < k → IsAt ids j x → IsAt ids k x → ⊥
    again j lt at atk = fresh ((upto id).1 (j, lt, at ∙ ap Some (same_Some x id (sym atk ∙ here))))

    go : (i ≡ k) ⊎ ((i < k) ⊎ (k < i)) → (j ≡ k) ⊎ ((j < k) ⊎ (k < j)) → i ≡ j
    go (inl a) (inl b) = omega arith
    go (inl a) (inr (inl b)) = absurd (again j b at2 (subst (λ (n : ℕ). IsAt ids n x) a at1))
    go (inl a) (inr (inr b)) = absurd (omega arith)
    go (inr (inl a)) (inl b) = absurd (again i a at1 (subst (λ (n : ℕ). IsAt ids n x) b at2))
    go (inr (inl a)) (inr (inl b)) = distinct i j x a b at1 at2
    go (inr (inl a)) (inr (inr b)) = absurd (omega arith)
    go (inr (inr a)) other = absurd (omega arith)

pub marked_none : {A : Type 0} (rows : Rows A) (ids : List OpId) → AreMarked rows [] → MarkedUpTo rows ids 0
marked_none rows ids none x = (λ h. absurd (let r = (none x).0 h in empty r.0 r.1), λ r. absurd (omega (arith, r.1)))
  where
    empty : (k : ℕ) → IsAt [] k x → ⊥
    empty k h = cc

pub marked_all : {A : Type 0} (rows : Rows A) (ids : List OpId) (n : ℕ) → length ids ≤ n → MarkedUpTo rows ids n
    → AreMarked rows ids
marked_all rows ids n le upto x = (λ h. (let r = (upto x).0 h in (r.0, r.2)), λ r. (upto x).1 (r.0, (let inside : r.0 < length ids = slice_get_within ids r.0 x r.1 in omega arith), r.1))

pub distinct_all : (ids : List OpId) (n : ℕ) → length ids ≤ n → DistinctUpTo ids n → IsDistinct ids
distinct_all ids n le upto i j x at1 at2 =
    let a : i < length ids = slice_get_within ids i x at1 in
    let b : j < length ids = slice_get_within ids j x at2 in
    upto i j x (omega arith) (omega arith) at1 at2

pub twice_here : {A : Type 0} (rows : Rows A) (ids : List OpId) (k : ℕ) (id : OpId) → IsAt ids k id
    → MarkedUpTo rows ids k → Marked rows id → HasTwice ids
twice_here rows ids k id here upto marked = let r = (upto id).0 marked in (r.0, k, id, r.2, here, r.1)

pub unmarked_are : {A : Type 0} (rows : Rows A) → IsUnmarked rows → AreMarked rows []
unmarked_are rows none id = (λ h. absurd (none id h), λ r. absurd (empty r.0 r.1))
  where
    empty : (k : ℕ) → IsAt [] k id → ⊥
    empty k h = cc

-- the operations that the first i entries answer are marked
abbrev pub FinishedUpTo : {A : Type 0} → Rows A → List Entry → ℕ → Type 0
FinishedUpTo rows es i = (j t : ℕ) (id : OpId) (a : Answer) → j < i → IsAt es j (Answered t id a) → Marked rows id

pub finished_more : {A : Type 0} (rows : Rows A) (es : List Entry) (i : ℕ) → FinishedUpTo rows es i
    → ((t : ℕ) (id : OpId) (a : Answer) → IsAt es i (Answered t id a) → Marked rows id) → FinishedUpTo rows es (i + 1)
finished_more rows es i before here j t id a less at = go (cases_order j i)
  where
    go : (j ≡ i) ⊎ ((j < i) ⊎ (i < j)) → Marked rows id
    go (inl e) = here t id a (subst (λ (k : ℕ). IsAt es k (Answered t id a)) e at)
    go (inr (inl h)) = before j t id a h at
    go (inr (inr h)) = absurd (omega arith)

-- an answer of a marked operation
pub same_marked : {A : Type 0} (rows : Rows A) (at t : ℕ) (id x : OpId) (answer a : Answer) → Marked rows id
    → Answered at id answer ≡ Answered t x a → Marked rows x
same_marked rows at t id x answer a marked e = let same : id ≡ x = cc in subst (λ (y : OpId). Marked rows y) same marked
