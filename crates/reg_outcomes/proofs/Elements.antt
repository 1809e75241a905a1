-- Elements of lists.
use Rattle.std.proofs.Common.{◌≡◌, ℕ, zero, suc, ◌+◌, List, [], ◌∷◌, ◌++◌, take, get_or, replicate, refl, ap, ◌∙◌}
use Rattle.std.proofs.Common.{arith}
use Rattle.std.specs.Prelude.{slice_index}
use Rattle.std.proofs.lemmas.Option.{same_Some}
use Rattle.reg_checkers.specs.History.{IsAt}

pub has_at : {X : Type 0} (xs : List X) (k : ℕ) (x d : X) → IsAt xs k x → get_or xs k d ≡ x
has_at [] k x d h = absurd cc
has_at (y ∷ xs) zero x d h = same_Some y x h
has_at (y ∷ xs) (suc k) x d h = has_at xs k x d h

pub take_at : {X : Type 0} (xs : List X) (n : ℕ) (x : X) → IsAt xs n x → take (n + 1) xs ≡ take n xs ++ x ∷ []
take_at [] n x h = absurd cc
take_at (y ∷ xs) zero x h = ap (λ z. z ∷ []) (same_Some y x h)
take_at (y ∷ xs) (suc n) x h =
    (let e : suc n + 1 ≡ suc (n + 1) = omega arith in ap (λ k. take k (y ∷ xs)) e) ∙ ap (λ l. y ∷ l) (take_at xs n x h)

pub none_at_first : (n p : ℕ) → slice_index (replicate n 0) p ≡ 0
none_at_first zero p = refl
none_at_first (suc n) zero = refl
none_at_first (suc n) (suc p) = none_at_first n p
