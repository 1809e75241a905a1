-- Places in lists.
use Rattle.std.proofs.Common.{◌≡◌, ◌≢◌, ◌⊎◌, inl, inr, ap₂, ℕ, zero, suc, ◌<◌, List, [], ◌∷◌, ◌++◌, set, map, take}
use Rattle.std.proofs.Common.{length, Some, slice_get, refl, ap, sym, ◌∙◌, arith, length-take}
use Rattle.std.proofs.lemmas.Option.{slice_get_within, same_Some}
use Rattle.std.proofs.lemmas.Bool.{cases_eq}
use Rattle.reg_base.specs.declared.memory.OpId.{OpId}
use Rattle.reg_checkers.specs.History.{IsAt}

-- a place within the list has an element
pub element_at : {X : Type 0} (xs : List X) (k : ℕ) → k < length xs → (x : X) × IsAt xs k x
element_at [] k h = absurd (omega arith)
element_at (x ∷ xs) zero h = (x, refl)
element_at (x ∷ xs) (suc k) h = element_at xs k (omega arith)

pub within : {X : Type 0} (xs : List X) (k : ℕ) (x : X) → IsAt xs k x → k < length xs
within xs k x h = slice_get_within xs k x h

-- at one place there is one element
pub same_at : {X : Type 0} (xs : List X) (k : ℕ) (x y : X) → IsAt xs k x → IsAt xs k y → x ≡ y
same_at xs k x y h g = same_Some x y (sym h ∙ g)

pub IsAt-map : {X Y : Type 0} (f : X → Y) (xs : List X) (k : ℕ) (x : X) → IsAt xs k x → IsAt (map f xs) k (f x)
IsAt-map f [] k x h = absurd cc
IsAt-map f (y ∷ xs) zero x h = ap (λ z. Some (f z)) (same_Some y x h)
IsAt-map f (y ∷ xs) (suc k) x h = IsAt-map f xs k x h

-- what stands in a mapped list comes from the list
pub at_map : {X Y : Type 0} (f : X → Y) (xs : List X) (k : ℕ) (y : Y) → IsAt (map f xs) k y
    → (x : X) × IsAt xs k x × (f x ≡ y)
at_map f [] k y h = absurd cc
at_map f (x ∷ xs) zero y h = (x, refl, same_Some (f x) y h)
at_map f (x ∷ xs) (suc k) y h = at_map f xs k y h

-- the first n elements
pub at_take : {X : Type 0} (xs : List X) (n k : ℕ) → k < n → slice_get (take n xs) k ≡ slice_get xs k
at_take xs zero k lt = absurd (omega arith)
at_take [] (suc n) k lt = refl
at_take (x ∷ xs) (suc n) zero lt = refl
at_take (x ∷ xs) (suc n) (suc k) lt = at_take xs n k (omega arith)

pub in_take : {X : Type 0} (xs : List X) (n k : ℕ) (x : X) → IsAt (take n xs) k x → (k < n) × IsAt xs k x
in_take xs n k x here =
    let inside : k < length (take n xs) = slice_get_within (take n xs) k x here in
    let lt : k < n = omega (arith, length-take n xs) in
    (lt, sym (at_take xs n k lt) ∙ here)

pub get_set_same : {X : Type 0} (xs : List X) (k : ℕ) (v : X) → k < length xs → slice_get (set xs k v) k ≡ Some v
get_set_same [] k v lt = absurd (omega arith)
get_set_same (x ∷ xs) zero v lt = refl
get_set_same (x ∷ xs) (suc k) v lt = get_set_same xs k v (omega arith)

pub get_set_other : {X : Type 0} (xs : List X) (k j : ℕ) (v : X) → (j ≡ k → ⊥)
    → slice_get (set xs k v) j ≡ slice_get xs j
get_set_other [] k j v other = refl
get_set_other (x ∷ xs) zero zero v other = absurd (other refl)
get_set_other (x ∷ xs) zero (suc j) v other = refl
get_set_other (x ∷ xs) (suc k) zero v other = refl
get_set_other (x ∷ xs) (suc k) (suc j) v other = get_set_other xs k j v (λ e. other (ap suc e))

pub get_push_same : {X : Type 0} (xs : List X) (k : ℕ) (v : X) → length xs ≡ k → slice_get (xs ++ v ∷ []) k ≡ Some v
get_push_same [] zero v e = refl
get_push_same [] (suc k) v e = absurd (omega arith)
get_push_same (x ∷ xs) zero v e = absurd (omega arith)
get_push_same (x ∷ xs) (suc k) v e = get_push_same xs k v (omega arith)

pub get_push_other : {X : Type 0} (xs : List X) (j : ℕ) (v : X) → (j ≡ length xs → ⊥)
    → slice_get (xs ++ v ∷ []) j ≡ slice_get xs j
get_push_other [] zero v other = absurd (other refl)
get_push_other [] (suc j) v other = refl
get_push_other (x ∷ xs) zero v other = refl
get_push_other (x ∷ xs) (suc j) v other = get_push_other xs j v (λ e. other (ap suc e))

-- two operations are one, or they are not
pub same_id : (a b : OpId) → (a ≡ b) ⊎ (a ≢ b)
same_id a b = go (cases_eq a.process b.process) (cases_eq a.number b.number)
  where
    go : (a.process ≡ b.process) ⊎ (a.process ≡ b.process → ⊥) → (a.number ≡ b.number) ⊎ (a.number ≡ b.number → ⊥) → (a ≡ b) ⊎ (a ≢ b)
    go (inl p) (inl n) = inl (ap₂ (λ (x y : ℕ). record { process = x; number = y }) p n)
    go (inl p) (inr n) = inr (λ e. n (ap (λ (x : OpId). x.number) e))
    go (inr p) other = inr (λ e. p (ap (λ (x : OpId). x.process) e))
