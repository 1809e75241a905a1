-- Lists with one element more, and what holds of some of their elements.
use Rattle.std.proofs.Common.{◌≡◌, ◌⊎◌, inl, inr, ℕ, zero, suc, ◌<◌, ◌≤◌, List, [], ◌∷◌, ◌++◌, length, Some, get_or}
use Rattle.std.proofs.Common.{refl, ap, subst, arith}
use Rattle.std.specs.List.{Contains}
use Rattle.std.proofs.lemmas.Option.{slice_get_within, same_Some}
use Rattle.reg_checkers.specs.History.{IsAt}
use Rattle.reg_outcomes.proofs.Elements.{has_at}
use Rattle.reg_outcomes.specs.PlayTables.{AreThose, Nothing, Takes, Leaves}

pub at_front : {X : Type 0} (xs ys : List X) (k : ℕ) (x : X) → IsAt xs k x → IsAt (xs ++ ys) k x
at_front [] ys k x h = absurd cc
at_front (y ∷ xs) ys zero x h = h
at_front (y ∷ xs) ys (suc k) x h = at_front xs ys k x h

pub at_new : {X : Type 0} (xs : List X) (x : X) → IsAt (xs ++ x ∷ []) (length xs) x
at_new [] x = refl
at_new (y ∷ xs) x = at_new xs x

pub at_cases : {X : Type 0} (xs : List X) (x : X) (k : ℕ) (y : X) → IsAt (xs ++ x ∷ []) k y → IsAt xs k y ⊎ (x ≡ y)
at_cases [] x zero y h = inr (same_Some x y h)
at_cases [] x (suc k) y h = absurd cc
at_cases (z ∷ xs) x zero y h = inl h
at_cases (z ∷ xs) x (suc k) y h = at_cases xs x k y h

pub contains_at : {X : Type 0} (xs : List X) (k : ℕ) (x : X) → IsAt xs k x → Contains xs x
contains_at xs k x h = (k, slice_get_within xs k x h, has_at xs k x x h)

pub at_of : {X : Type 0} (xs : List X) (k : ℕ) (x : X) → k < length xs → get_or xs k x ≡ x → IsAt xs k x
at_of [] k x lt e = absurd (omega arith)
at_of (y ∷ xs) zero x lt e = ap Some e
at_of (y ∷ xs) (suc k) x lt e = at_of xs k x (omega arith) e

-- one more of those, or one of the others
pub those_more : {X : Type 0} {P : X → Type 0} {xs ys : List X} (x : X) → P x → AreThose P xs ys
    → AreThose P (xs ++ x ∷ []) (ys ++ x ∷ [])
those_more x p Nothing = Takes p Nothing
those_more x p (Takes q rest) = Takes q (those_more x p rest)
those_more x p (Leaves q rest) = Leaves q (those_more x p rest)

pub those_same : {X : Type 0} {P : X → Type 0} {xs ys : List X} (x : X) → ¬ P x → AreThose P xs ys
    → AreThose P (xs ++ x ∷ []) ys
those_same x p Nothing = Leaves p Nothing
those_same x p (Takes q rest) = Takes q (those_same x p rest)
those_same x p (Leaves q rest) = Leaves q (those_same x p rest)

pub no_those : {X : Type 0} {P : X → Type 0} (xs : List X) → ((k : ℕ) (x : X) → IsAt xs k x → ¬ P x) → AreThose P xs []
no_those [] h = Nothing
no_those (x ∷ xs) h = Leaves (h 0 x refl) (no_those xs (λ k y at. h (suc k) y at))

pub those_few : {X : Type 0} {P : X → Type 0} {xs ys : List X} → AreThose P xs ys → length ys ≤ length xs
those_few Nothing = omega arith
those_few (Takes q rest) = let l = those_few rest in omega (arith, l)
those_few (Leaves q rest) = let l = those_few rest in omega (arith, l)

-- each of those is one of the others, and P holds of it
pub those_at : {X : Type 0} {P : X → Type 0} {xs ys : List X} → AreThose P xs ys → (k : ℕ) (y : X) → IsAt ys k y
    → (j : ℕ) × IsAt xs j y × P y
those_at Nothing k y h = absurd cc
those_at {P = P} (Takes {x = x} q rest) zero y h = (0, h, subst P (same_Some x y h) q)
those_at (Takes q rest) (suc k) y h = let there = those_at rest k y h in (suc there.0, there.1, there.2)
those_at (Leaves q rest) k y h = let there = those_at rest k y h in (suc there.0, there.1, there.2)
