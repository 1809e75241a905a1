-- The characters of a string, as they are put one after another.
use Rattle.std.proofs.Common.{ℕ, ◌≡◌, ◌+◌, ◌<◌, List, [], ◌∷◌, ◌++◌, length, map, take, get_or, refl, sym, ap, ◌∙◌}
use Rattle.std.proofs.Common.{append-nil, Option}
use Rattle.std.specs.Prelude.{flat_map}
use Rattle.std.proofs.lemmas.Grind.{flat_map-append}
use Rattle.std.proofs.lemmas.List.{take_more}
use Rattle.reg_text.specs.declared.writing.Sink.{Sink}
use Rattle.reg_text.specs.Writing.{Puts}
use Rattle.reg_trace.proofs.LookedBehind.{◌▸◌, as_text}

spelt_more : {X : Type 0} (f : X → List ℕ) (xs : List X) (x : X) → flat_map f xs ++ f x ≡ flat_map f (xs ++ x ∷ [])
spelt_more f xs x = sym (flat_map-append f xs (x ∷ []) ∙ ap (λ t. flat_map f xs ++ t) (append-nil (f x)))

-- one more is put
pub puts_more : {S X : Type 0} (held : S → Option (List ℕ)) (a b c : Sink S) (f : X → List ℕ) (xs : List X) (x : X)
    → Puts held a b (flat_map f xs) → Puts held b c (f x) → Puts held a c (flat_map f (xs ++ x ∷ []))
puts_more held a b c f xs x p q = as_text (spelt_more f xs x) (p ▸ q)

-- the same of the first so many
pub puts_at : {S X : Type 0} (held : S → Option (List ℕ)) (a b c : Sink S) (f : X → List ℕ) (xs : List X) (i : ℕ)
    (d : X)
    → i < length xs
    → Puts held a b (flat_map f (take i xs)) → Puts held b c (f (get_or xs i d)) → Puts held a c (flat_map f (take (i + 1) xs))
puts_at held a b c f xs i d l p q =
    as_text (ap (flat_map f) (sym (take_more xs i d l))) (puts_more held a b c f (take i xs) (get_or xs i d) p q)

pub each_same : {X : Type 0} (xs : List X) → map (λ x. x) xs ≡ xs
each_same [] = refl
each_same (x ∷ xs) = ap (λ t. x ∷ t) (each_same xs)
