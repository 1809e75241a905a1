-- Lists with one element replaced, and filters and maps by equal functions.
use Rattle.std.proofs.Common.{◌≡◌, ℕ, zero, suc, ◌<◌, Bool, cond, List, [], ◌∷◌, ◌++◌, map, length, set, refl, ap, ◌∙◌}
use Rattle.std.proofs.Common.{inl, inr, arith}
use Rattle.std.specs.Prelude.{slice_get}
use Rattle.std.specs.List.{filter}
use Rattle.std.proofs.lemmas.Bool.{cond_both}
use Rattle.reg_base.specs.Order.{In}
use Rattle.reg_checkers.specs.History.{IsAt}

-- places of a list with one element replaced
pub at_set_same : {X : Type 0} (xs : List X) (p : ℕ) (x : X) → p < length xs → IsAt (set xs p x) p x
at_set_same [] p x l = absurd (omega arith)
at_set_same (y ∷ xs) zero x l = refl
at_set_same (y ∷ xs) (suc p) x l = at_set_same xs p x (omega arith)

pub at_set_other : {X : Type 0} (xs : List X) (p q : ℕ) (x : X) → (q ≡ p → ⊥)
    → slice_get (set xs p x) q ≡ slice_get xs q
at_set_other [] p q x ne = refl
at_set_other (y ∷ xs) zero zero x ne = absurd (ne refl)
at_set_other (y ∷ xs) zero (suc q) x ne = refl
at_set_other (y ∷ xs) (suc p) zero x ne = refl
at_set_other (y ∷ xs) (suc p) (suc q) x ne = at_set_other xs p q x (λ e. ne (ap suc e))

pub filter_append : {X : Type 0} (f : X → Bool) (xs ys : List X) → filter f (xs ++ ys) ≡ filter f xs ++ filter f ys
filter_append f [] ys = refl
filter_append f (x ∷ xs) ys =
    ap (λ l. cond (f x) (x ∷ l) l) (filter_append f xs ys)
    ∙ cond_both (f x) (x ∷ filter f xs) (filter f xs) (λ l. cond (f x) (x ∷ (filter f xs ++ filter f ys)) (filter f xs ++ filter f ys) ≡ l ++ filter f ys)
    (λ e. ap (λ b. cond b (x ∷ (filter f xs ++ filter f ys)) (filter f xs ++ filter f ys)) e)
    (λ e. ap (λ b. cond b (x ∷ (filter f xs ++ filter f ys)) (filter f xs ++ filter f ys)) e)

pub filter_same : {X : Type 0} (f g : X → Bool) (xs : List X) → ((x : X) → In x xs → f x ≡ g x)
    → filter f xs ≡ filter g xs
filter_same f g [] h = refl
filter_same f g (x ∷ xs) h =
    ap (λ l. cond (f x) (x ∷ l) l) (filter_same f g xs (λ y i. h y (inr i))) ∙ ap (λ b. cond b (x ∷ filter g xs) (filter g xs)) (h x (inl refl))

pub map_same : {X Y : Type 0} (f g : X → Y) (xs : List X) → ((x : X) → In x xs → f x ≡ g x) → map f xs ≡ map g xs
map_same f g [] h = refl
map_same f g (x ∷ xs) h =
    ap (λ y. y ∷ map f xs) (h x (inl refl)) ∙ ap (λ l. g x ∷ l) (map_same f g xs (λ y i. h y (inr i)))
