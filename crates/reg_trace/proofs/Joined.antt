-- The parts of a list, as they are put one after another.
use Rattle.std.proofs.Common.{ℕ, zero, suc, ◌≡◌, ◌+◌, ◌<◌, ◌≤◌, List, [], ◌∷◌, ◌++◌, length, take, map, get_or, codes}
use Rattle.std.proofs.Common.{Option, refl, sym, ap, ◌∙◌, arith, append_assoc, append-nil}
use Rattle.std.specs.Prelude.{flat_map}
use Rattle.reg_text.specs.declared.writing.Sink.{Sink}
use Rattle.reg_text.specs.Writing.{Puts}
use Rattle.reg_trace.specs.Json.{comma_at, joined, lines_text, list_text}
use Rattle.reg_trace.proofs.LookedBehind.{◌▸◌, as_text}

abbrev behind_comma : List ℕ → List ℕ
behind_comma part = 44 ∷ part

-- one more part after a comma
tail_more : {X : Type 0} (f : X → List ℕ) (xs : List X) (i : ℕ) (d : X) → i < length xs
    → flat_map behind_comma (map f (take (i + 1) xs))
    ≡ flat_map behind_comma (map f (take i xs)) ++ (44 ∷ f (get_or xs i d))
tail_more f [] i d l = absurd (omega (arith, l))
tail_more f (x ∷ xs) zero d l = append-nil (44 ∷ f x)
tail_more f (x ∷ xs) (suc i) d l =
    let k : suc i + 1 ≡ suc (i + 1) = omega arith in
    ap (λ n. flat_map behind_comma (map f (take n (x ∷ xs)))) k
    ∙ (ap (λ t. (44 ∷ f x) ++ t) (tail_more f xs i d (omega (arith, l))) ∙ sym (append_assoc (44 ∷ f x) (flat_map behind_comma (map f (take i xs))) (44 ∷ f (get_or xs i d))))

-- one more part
pub joined_more : {X : Type 0} (f : X → List ℕ) (xs : List X) (i : ℕ) (d : X) → i < length xs
    → joined (map f (take (i + 1) xs)) ≡ joined (map f (take i xs)) ++ (comma_at i ++ f (get_or xs i d))
joined_more f [] i d l = absurd (omega (arith, l))
joined_more f (x ∷ xs) zero d l = append-nil (f x)
joined_more f (x ∷ xs) (suc i) d l =
    let k : suc i + 1 ≡ suc (i + 1) = omega arith in
    ap (λ n. joined (map f (take n (x ∷ xs)))) k
    ∙ (ap (λ t. f x ++ t) (tail_more f xs i d (omega (arith, l))) ∙ sym (append_assoc (f x) (flat_map behind_comma (map f (take i xs))) (44 ∷ f (get_or xs i d))))

pub puts_part : {S X : Type 0} (held : S → Option (List ℕ)) (a b c e : Sink S) (f : X → List ℕ) (xs : List X) (i : ℕ)
    (d : X)
    → i < length xs
    → Puts held a b (joined (map f (take i xs))) → Puts held b c (comma_at i) → Puts held c e (f (get_or xs i d)) → Puts held a e (joined (map f (take (i + 1) xs)))
puts_part held a b c e f xs i d l p q r = as_text (sym (joined_more f xs i d l)) (p ▸ (q ▸ r))

all_taken : {X : Type 0} (xs : List X) (i : ℕ) → length xs ≤ i → take i xs ≡ xs
all_taken [] zero l = refl
all_taken [] (suc i) l = refl
all_taken (x ∷ xs) zero l = absurd (omega (arith, l))
all_taken (x ∷ xs) (suc i) l = ap (λ t. x ∷ t) (all_taken xs i (omega (arith, l)))

-- a list is put: its beginning, its parts and its end
pub puts_list : {S X : Type 0} (held : S → Option (List ℕ)) (a b c e : Sink S) (f : X → List ℕ) (xs : List X) (i : ℕ)
    → length xs ≤ i
    → Puts held a b (codes "[") → Puts held b c (joined (map f (take i xs))) → Puts held c e (codes "]") → Puts held a e (list_text f xs)
puts_list held a b c e f xs i l p q r = p ▸ (as_text (ap (λ t. joined (map f t)) (all_taken xs i l)) q ▸ r)

-- a value with its line feed
abbrev pub line_by : {X : Type 0} → (X → List ℕ) → X → List ℕ
line_by f x = f x ++ 10 ∷ []

-- the same of a list with a line for each value
pub puts_lines : {S X : Type 0} (held : S → Option (List ℕ)) (a b c e : Sink S) (f : X → List ℕ) (xs : List X) (i : ℕ)
    → length xs ≤ i
    → Puts held a b (91 ∷ 10 ∷ []) → Puts held b c (joined (map (line_by f) (take i xs))) → Puts held c e (codes "]") → Puts held a e (lines_text f xs)
puts_lines held a b c e f xs i l p q r = p ▸ (as_text (ap (λ t. joined (map (line_by f) t)) (all_taken xs i l)) q ▸ r)
