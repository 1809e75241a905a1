-- The pass over own order, and the one that looks up the facts.
use Rattle.std.proofs.Common.{◌≡◌, ℕ, zero, suc, ◌+◌, ◌<◌, ◌≤◌, ◌⊎◌, inl, inr, List, [], ◌∷◌, ◌++◌, length, take, set}
use Rattle.std.proofs.Common.{replicate, get_or, Some, slice_get, slice_index, refl, ap, ap₂, sym, ◌∙◌, subst, arith}
use Rattle.std.specs.List.{AllZip}
use Rattle.std.proofs.lemmas.Option.{same_Some, slice_get_within}
use Rattle.std.proofs.lemmas.Bool.{cases_order, cases_eq}
use Rattle.std.proofs.lemmas.List.{get_or-set_same, get_or-set_other, take_more, take_all}
use Rattle.reg_base.specs.declared.memory.OpId.{OpId}
use Rattle.reg_checkers.specs.History.{IsAt}
use Rattle.reg_checkers.specs.Orders.{IsDistinct, KeepsOwnOrder}
use Rattle.reg_checkers.specs.Checks.{BreaksOwnOrder}
use Rattle.reg_checkers.specs.Table.{Rows, Stands}

-- one more than the highest number of each process among the first k ids
pub record IsHigh (ids : List OpId) (k : ℕ) (next : List ℕ) : Type 0 where
  pub above : (j : ℕ) (a : OpId) → j < k → IsAt ids j a → a.number < slice_index next a.process
  pub reached : (p : ℕ)
      → (slice_index next p ≡ 0)
      ⊎ ((j : ℕ) × (a : OpId) × (j < k) × IsAt ids j a × (a.process ≡ p) × (a.number + 1 ≡ slice_index next p))

abbrev pub KeepsUpTo : List OpId → ℕ → Type 0
KeepsUpTo ids k = (i j : ℕ) (a b : OpId) → i < k → j < k → IsAt ids i a → IsAt ids j b → a.process ≡ b.process → a.number < b.number → i < j

pub own_broken : (ids : List OpId) (k : ℕ) (next : List ℕ) (id : OpId) → IsDistinct ids → IsHigh ids k next
    → IsAt ids k id → id.number < slice_index next id.process → BreaksOwnOrder ids
own_broken ids k next id distinct high here lt = go (high.reached id.process)
  where
    go : (slice_index next id.process ≡ 0) ⊎ ((j : ℕ) × (a : OpId) × (j < k) × IsAt ids j a × (a.process ≡ id.process) × (a.number + 1 ≡ slice_index next id.process)) → BreaksOwnOrder ids
    go (inl none) = absurd (omega arith)
    go (inr (j, a, less, at, same, number)) = (j, k, a, id, at, here, less, same, strict (cases_order id.number a.number))
      where
        strict : (id.number ≡ a.number) ⊎ ((id.number < a.number) ⊎ (a.number < id.number)) → id.number < a.number
        strict (inl e) =
            let one : a ≡ id = ap₂ (λ (p q : ℕ). record { process = p; number = q }) same (sym e) in
            let places : j ≡ k = distinct j k id (at ∙ ap Some one) here in
            absurd (omega arith)
        strict (inr (inl h)) = h
        strict (inr (inr h)) = absurd (omega arith)

same_number : {u v : OpId} → u ≡ v → u.number < v.number → ⊥
same_number e lt = grind arith

pub keeps_more : (ids : List OpId) (k : ℕ) (next : List ℕ) (id : OpId) → IsHigh ids k next → IsAt ids k id
    → slice_index next id.process ≤ id.number → KeepsUpTo ids k → KeepsUpTo ids (k + 1)
keeps_more ids k next id high here le keeps i j a b lt1 lt2 at1 at2 same less = go (cases_order i k) (cases_order j k)
  where
    go : (i ≡ k) ⊎ ((i < k) ⊎ (k < i)) → (j ≡ k) ⊎ ((j < k) ⊎ (k < j)) → i < j
    go (inl x) (inl y) =
        let one : a ≡ b = same_Some a b (sym at1 ∙ (ap (λ (n : ℕ). slice_get ids n) (let e : i ≡ j = omega arith in e) ∙ at2)) in
        absurd (same_number one less)
    go (inl x) (inr (inl y)) =
        let is : a ≡ id = same_Some a id (sym at1 ∙ (ap (λ (n : ℕ). slice_get ids n) x ∙ here)) in
        let p : b.process ≡ id.process = sym same ∙ ap (λ (u : OpId). u.process) is in
        let n : a.number ≡ id.number = ap (λ (u : OpId). u.number) is in
        let low : b.number < slice_index next id.process = subst (λ (q : ℕ). b.number < slice_index next q) p (high.above j b y at2) in
        absurd (omega arith)
    go (inl x) (inr (inr y)) = absurd (omega arith)
    go (inr (inl x)) (inl y) = omega arith
    go (inr (inl x)) (inr (inl y)) = keeps i j a b x y at1 at2 same less
    go (inr (inl x)) (inr (inr y)) = absurd (omega arith)
    go (inr (inr x)) other = absurd (omega arith)

pub high_more : (ids : List OpId) (k : ℕ) (next : List ℕ) (id : OpId) → id.process < length next → IsHigh ids k next
    → IsAt ids k id → slice_index next id.process ≤ id.number
    → IsHigh ids (k + 1) (set next id.process (id.number + 1))
high_more ids k next id inside high here le = record { above = above; reached = reached }
  where
    new : (p : ℕ) → p ≡ id.process → slice_index (set next id.process (id.number + 1)) p ≡ id.number + 1
    new p e = ap (λ (q : ℕ). slice_index (set next id.process (id.number + 1)) q) e ∙ get_or-set_same next id.process (id.number + 1) 0 inside

    old : (p : ℕ) → (p ≡ id.process → ⊥) → slice_index (set next id.process (id.number + 1)) p ≡ slice_index next p
    old p other = get_or-set_other next id.process p (id.number + 1) 0 other

    above : (j : ℕ) (a : OpId) → j < k + 1 → IsAt ids j a → a.number < slice_index (set next id.process (id.number + 1)) a.process
    above j a lt at = go (cases_order j k) (cases_eq a.process id.process)
      where
        go : (j ≡ k) ⊎ ((j < k) ⊎ (k < j)) → (a.process ≡ id.process) ⊎ (a.process ≡ id.process → ⊥) → a.number < slice_index (set next id.process (id.number + 1)) a.process
        go (inl e) (inl p) =
            let is : a ≡ id = same_Some a id (sym at ∙ (ap (λ (n : ℕ). slice_get ids n) e ∙ here)) in
            let n : a.number ≡ id.number = ap (λ (u : OpId). u.number) is in
            omega (arith, new a.process p)
        go (inl e) (inr p) = absurd (p (ap (λ (u : OpId). u.process) (same_Some a id (sym at ∙ (ap (λ (n : ℕ). slice_get ids n) e ∙ here)))))
        go (inr (inl h)) (inl p) =
            let low : a.number < slice_index next id.process = subst (λ (q : ℕ). a.number < slice_index next q) p (high.above j a h at) in
            omega (arith, new a.process p)
        go (inr (inl h)) (inr p) = let low : a.number < slice_index next a.process = high.above j a h at in omega (arith, old a.process p)
        go (inr (inr h)) other = absurd (omega arith)

    reached : (p : ℕ) → (slice_index (set next id.process (id.number + 1)) p ≡ 0) ⊎ ((j : ℕ) × (a : OpId) × (j < k + 1) × IsAt ids j a × (a.process ≡ p) × (a.number + 1 ≡ slice_index (set next id.process (id.number + 1)) p))
    reached p = go (cases_eq p id.process) (high.reached p)
      where
        go : (p ≡ id.process) ⊎ (p ≡ id.process → ⊥) → (slice_index next p ≡ 0) ⊎ ((j : ℕ) × (a : OpId) × (j < k) × IsAt ids j a × (a.process ≡ p) × (a.number + 1 ≡ slice_index next p))
            → (slice_index (set next id.process (id.number + 1)) p ≡ 0) ⊎ ((j : ℕ) × (a : OpId) × (j < k + 1) × IsAt ids j a × (a.process ≡ p) × (a.number + 1 ≡ slice_index (set next id.process (id.number + 1)) p))
        go (inl e) other = inr (k, id, omega arith, here, sym e, sym (new p e))
        go (inr e) (inl none) = inl (old p e ∙ none)
        go (inr e) (inr (j, a, lt, at, q, n)) = inr (j, a, omega arith, at, q, n ∙ sym (old p e))

pub keeps_all : (ids : List OpId) (n : ℕ) → length ids ≤ n → KeepsUpTo ids n → KeepsOwnOrder ids
keeps_all ids n le keeps i j a b at1 at2 same less =
    let x : i < length ids = slice_get_within ids i a at1 in
    let y : j < length ids = slice_get_within ids j b at2 in
    keeps i j a b (omega arith) (omega arith) at1 at2 same less

-- one more pair at the ends of two lists
pub zip_push : {X Y : Type 0} (R : X → Y → Type 0) (xs : List X) (ys : List Y) (x : X) (y : Y) → AllZip R xs ys → R x y
    → AllZip R (xs ++ x ∷ []) (ys ++ y ∷ [])
zip_push R [] [] x y all new = (new, tt)
zip_push R [] (b ∷ ys) x y all new = absurd all
zip_push R (a ∷ xs) [] x y all new = absurd all
zip_push R (a ∷ xs) (b ∷ ys) x y all new = (all.0, zip_push R xs ys x y all.1 new)

pub zip_more : {X Y : Type 0} (R : X → Y → Type 0) (xs : List X) (ys : List Y) (k : ℕ) (d : X) (y : Y) → k < length xs
    → AllZip R (take k xs) ys → R (get_or xs k d) y → AllZip R (take (k + 1) xs) (ys ++ y ∷ [])
zip_more R xs ys k d y lt all new = rw (take_more xs k d lt) (zip_push R (take k xs) ys (get_or xs k d) y all new)

pub zip_all : {X Y : Type 0} (R : X → Y → Type 0) (xs : List X) (ys : List Y) (n : ℕ) → length xs ≤ n
    → AllZip R (take n xs) ys → AllZip R xs ys
zip_all R xs ys n le all = rw (take_all n xs le) at all

-- a list of zeros
zeros : (n p : ℕ) → slice_index (replicate n 0) p ≡ 0
zeros zero p = refl
zeros (suc n) zero = refl
zeros (suc n) (suc p) = zeros n p

pub high_none : (ids : List OpId) (next : List ℕ) (n : ℕ) → next ≡ replicate n 0 → IsHigh ids 0 next
high_none ids next n e = record { above = λ j a lt. absurd (omega arith); reached = λ p. inl (ap (λ (xs : List ℕ). slice_index xs p) e ∙ zeros n p) }

pub stand_more : {A : Type 0} (rows : Rows A) (ids : List OpId) (k : ℕ) (x : OpId) → IsAt ids k x → Stands rows x
    → ((j : ℕ) (id : OpId) → j < k → IsAt ids j id → Stands rows id)
    → (j : ℕ) (id : OpId) → j < k + 1 → IsAt ids j id → Stands rows id
stand_more rows ids k x here new before j id lt at = go (cases_order j k)
  where
    go : (j ≡ k) ⊎ ((j < k) ⊎ (k < j)) → Stands rows id
    go (inl e) = subst (λ (y : OpId). Stands rows y) (same_Some x id (sym here ∙ (ap (λ (n : ℕ). slice_get ids n) (sym e) ∙ at))) new
    go (inr (inl h)) = before j id h at
    go (inr (inr h)) = absurd (omega arith)
