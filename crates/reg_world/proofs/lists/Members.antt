-- Members of lists, and induction from the end.
use Rattle.std.proofs.Common.{ℕ, ◌≡◌, zero, suc, ◌<◌, List, [], ◌∷◌, ◌++◌, map, Some, length, get_or, ap, sym, subst}
use Rattle.std.proofs.Common.{inl, inr, refl, arith, append_assoc}
use Rattle.std.proofs.lemmas.List.{append-nil}
use Rattle.reg_base.specs.Order.{In}
use Rattle.reg_checkers.specs.History.{IsAt}
use Rattle.reg_world.proofs.lists.Bodies.{place_in}

pub in_at : {X : Type 0} (x : X) (xs : List X) → In x xs → (k : ℕ) × IsAt xs k x
in_at x [] h = absurd h
in_at x (y ∷ xs) (inl e) = (0, ap Some (sym e))
in_at x (y ∷ xs) (inr h) = let r = in_at x xs h in (suc r.0, r.1)

pub at_in : {X : Type 0} (x : X) (xs : List X) → ((k : ℕ) × IsAt xs k x) → In x xs
at_in x xs h = place_in xs h.0 x h.1

pub from_end : {X : Type 0} (P : List X → Type 0) → P [] → ((xs : List X) (x : X) → P xs → P (xs ++ x ∷ []))
    → (xs : List X) → P xs
from_end {X = X} P z s xs = go xs [] z
  where
    go : (xs done : List X) → P done → P (done ++ xs)
    go [] done h = subst P (sym (append-nil done)) h
    go (x ∷ xs) done h = subst P (append_assoc done (x ∷ []) xs) (go xs (done ++ x ∷ []) (s done x h))

pub map_append : {X Y : Type 0} (f : X → Y) (xs ys : List X) → map f (xs ++ ys) ≡ map f xs ++ map f ys
map_append f [] ys = refl
map_append f (x ∷ xs) ys = ap (λ l. f x ∷ l) (map_append f xs ys)

pub in_map : {X Y : Type 0} (f : X → Y) (x : X) (xs : List X) → In x xs → In (f x) (map f xs)
in_map f x [] h = h
in_map f x (y ∷ xs) (inl e) = inl (ap f e)
in_map f x (y ∷ xs) (inr h) = inr (in_map f x xs h)

pub map_in : {X Y : Type 0} (f : X → Y) (y : Y) (xs : List X) → In y (map f xs) → (x : X) × In x xs × (y ≡ f x)
map_in f y [] h = absurd h
map_in f y (x ∷ xs) (inl e) = (x, inl refl, e)
map_in f y (x ∷ xs) (inr h) = let r = map_in f y xs h in (r.0, inr r.1, r.2)

pub in_drop : {X : Type 0} (i : ℕ) (xs : List X) (x d : X) → i < length xs → x ≡ get_or xs i d → In x xs
in_drop i [] x d l e = absurd (omega arith)
in_drop zero (y ∷ xs) x d l e = inl e
in_drop (suc i) (y ∷ xs) x d l e = inr (in_drop i xs x d (omega arith) e)
