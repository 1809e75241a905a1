-- What a filter keeps, and in which order.
use Rattle.std.proofs.Common.{◌≡◌, ◌⊎◌, inl, inr, ℕ, zero, suc, ◌<◌, Bool, true, false, cond, List, [], ◌∷◌, map, Some}
use Rattle.std.proofs.Common.{refl, ap, sym, ◌∙◌, subst, arith}
use Rattle.std.specs.List.{filter}
use Rattle.std.proofs.lemmas.Option.{same_Some}
use Rattle.reg_checkers.specs.History.{IsAt}

nothing : {X : Type 0} (k : ℕ) (x : X) → IsAt [] k x → ⊥
nothing k x at = cc

kept_head : {X : Type 0} (x y : X) (xs : List X) (b : Bool) → b ≡ true → y ≡ x → (j : ℕ) × IsAt (cond b (y ∷ xs) xs) j x
kept_head x y xs true is same = (0, ap Some same)
kept_head x y xs false is same = absurd cc

kept_rest : {X : Type 0} (x y : X) (xs : List X) (b : Bool) (k : ℕ) → IsAt xs k x
    → (j : ℕ) × IsAt (cond b (y ∷ xs) xs) j x
kept_rest x y xs true k at = (suc k, at)
kept_rest x y xs false k at = (k, at)

-- what passes the test is kept
pub kept : {X : Type 0} (test : X → Bool) (xs : List X) (k : ℕ) (x : X) → IsAt xs k x → test x ≡ true
    → (j : ℕ) × IsAt (filter test xs) j x
kept test [] k x at is = absurd (nothing k x at)
kept test (y ∷ xs) zero x at is =
    let same = same_Some y x at in kept_head x y (filter test xs) (test y) (ap test same ∙ is) same
kept test (y ∷ xs) (suc k) x at is =
    let there = kept test xs k x at is in kept_rest x y (filter test xs) (test y) there.0 there.1

head_or_rest : {X : Type 0} (x y : X) (xs : List X) (b : Bool) (k : ℕ) → IsAt (cond b (y ∷ xs) xs) k x
    → ((b ≡ true) × (y ≡ x)) ⊎ ((j : ℕ) × IsAt xs j x)
head_or_rest x y xs true zero at = inl (refl, same_Some y x at)
head_or_rest x y xs true (suc k) at = inr (k, at)
head_or_rest x y xs false k at = inr (k, at)

-- what is kept was there, and passes the test
pub was_kept : {X : Type 0} (test : X → Bool) (xs : List X) (k : ℕ) (x : X) → IsAt (filter test xs) k x
    → ((j : ℕ) × IsAt xs j x) × (test x ≡ true)
was_kept test [] k x at = absurd (nothing k x at)
was_kept test (y ∷ xs) k x at = elim (head_or_rest x y (filter test xs) (test y) k at) [
  | inl (is, same) ↦ ((0, ap Some same), ap test (sym same) ∙ is)
  | inr (j, there) ↦ let was = was_kept test xs j x there in ((suc was.0.0, was.0.1), was.1)
]

names_head : {X Y : Type 0} (name : X → Y) (x : X) (xs : List X) (ys : List Y) (b : Bool) → map name xs ≡ ys
    → map name (cond b (x ∷ xs) xs) ≡ cond b (name x ∷ ys) ys
names_head name x xs ys true same = ap (λ l. name x ∷ l) same
names_head name x xs ys false same = same

-- names kept are names of what is kept
pub kept_names : {X Y : Type 0} (name : X → Y) (test : Y → Bool) (xs : List X)
    → map name (filter (λ x. test (name x)) xs) ≡ filter test (map name xs)
kept_names name test [] = refl
kept_names name test (x ∷ xs) = names_head name x (filter (λ x. test (name x)) xs) (filter test (map name xs)) (test (name x)) (kept_names name test xs)

-- R holds of each element and each later one
abbrev pub InOrder : {X : Type 0} → (X → X → Type 0) → List X → Type 0
InOrder {X} R xs = (i j : ℕ) (x y : X) → IsAt xs i x → IsAt xs j y → i < j → R x y

pub in_order_cons : {X : Type 0} (R : X → X → Type 0) (x : X) (xs : List X) → ((j : ℕ) (y : X) → IsAt xs j y → R x y)
    → InOrder R xs → InOrder R (x ∷ xs)
in_order_cons R x xs first rest zero zero a b here there lt = absurd (omega (arith, lt))
in_order_cons R x xs first rest zero (suc j) a b here there lt =
    subst (λ z. R z b) (same_Some x a here) (first j b there)
in_order_cons R x xs first rest (suc i) zero a b here there lt = absurd (omega (arith, lt))
in_order_cons R x xs first rest (suc i) (suc j) a b here there lt = rest i j a b here there (omega (arith, lt))

pub in_order_rest : {X : Type 0} (R : X → X → Type 0) (x : X) (xs : List X) → InOrder R (x ∷ xs) → InOrder R xs
in_order_rest R x xs order i j a b here there lt = order (suc i) (suc j) a b here there (omega (arith, lt))

order_kept : {X : Type 0} (R : X → X → Type 0) (x : X) (xs : List X) (b : Bool)
    → ((j : ℕ) (y : X) → IsAt xs j y → R x y) → InOrder R xs → InOrder R (cond b (x ∷ xs) xs)
order_kept R x xs true first rest = in_order_cons R x xs first rest
order_kept R x xs false first rest = rest

pub in_order_filter : {X : Type 0} (R : X → X → Type 0) (test : X → Bool) (xs : List X) → InOrder R xs
    → InOrder R (filter test xs)
in_order_filter R test [] order = λ i j a b here. absurd (nothing i a here)
in_order_filter R test (x ∷ xs) order = order_kept R x (filter test xs) (test x) (λ j y at. (let was = was_kept test xs j y at in order 0 (suc was.0.0) x y refl was.0.1 (omega arith))) (in_order_filter R test xs (in_order_rest R x xs order))
