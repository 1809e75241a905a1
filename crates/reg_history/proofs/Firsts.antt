-- What two lists that are equal begin with.
use Rattle.std.proofs.Common.{ℕ, ◌≡◌, List, [], ◌∷◌, Result, Ok, Err, drop, get_or, ap}

-- a list has no first element and one
pub none_first : {A : Type 0} {x : List ℕ} {xs : List (List ℕ)} → [] ≡ x ∷ xs → A
none_first e = absurd (cc)

pub first_line : {x y : List ℕ} {xs ys : List (List ℕ)} → x ∷ xs ≡ y ∷ ys → x ≡ y
first_line e = ap (λ l. get_or l 0 []) e

pub other_lines : {x y : List ℕ} {xs ys : List (List ℕ)} → x ∷ xs ≡ y ∷ ys → xs ≡ ys
other_lines e = ap (drop 1) e

pub same_ok : {T E : Type 0} {x y : T} → ◌≡◌ {A = Result T E} (Ok x) (Ok y) → x ≡ y
same_ok e = cc

pub not_ok : {A T E : Type 0} {x : T} {f : E} → ◌≡◌ {A = Result T E} (Err f) (Ok x) → A
not_ok e = absurd (cc)
