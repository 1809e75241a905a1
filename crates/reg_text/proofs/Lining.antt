-- Lines that are put one after another.
use Rattle.std.proofs.Common.{ℕ, ◌≡◌, ◌+◌, ◌<◌, List, [], ◌∷◌, ◌++◌, length, take, get_or, Option, sym, ap, ◌∙◌}
use Rattle.std.proofs.Common.{append-nil}
use Rattle.std.proofs.lemmas.Grind.{flat_map-append}
use Rattle.std.proofs.lemmas.List.{take_more}
use Rattle.reg_text.specs.declared.writing.Sink.{Sink}
use Rattle.reg_text.specs.Lines.{lines_by}
use Rattle.reg_text.specs.Writing.{Puts}
use Rattle.reg_text.proofs.Sent.{puts_two, puts_as}

lines_more : {X : Type 0} (f : X → List ℕ) (xs : List X) (i : ℕ) (d : X) → i < length xs
    → lines_by f (take (i + 1) xs) ≡ lines_by f (take i xs) ++ (f (get_or xs i d) ++ 10 ∷ [])
lines_more f xs i d l =
    ap (lines_by f) (take_more xs i d l) ∙ flat_map-append (λ x. f x ++ 10 ∷ []) (take i xs) (get_or xs i d ∷ []) ∙ ap (λ t. lines_by f (take i xs) ++ t) (append-nil (f (get_or xs i d) ++ 10 ∷ []))

-- one more line
pub puts_line : {S X : Type 0} (held : S → Option (List ℕ)) (a b c : Sink S) (f : X → List ℕ) (xs : List X) (i : ℕ)
    (d : X)
    → i < length xs → Puts held a b (lines_by f (take i xs)) → Puts held b c (f (get_or xs i d) ++ 10 ∷ [])
    → Puts held a c (lines_by f (take (i + 1) xs))
puts_line held a b c f xs i d l p q =
    puts_as held a c (lines_by f (take i xs) ++ (f (get_or xs i d) ++ 10 ∷ [])) (lines_by f (take (i + 1) xs)) (sym (lines_more f xs i d l))
    (puts_two held a b c (lines_by f (take i xs)) (f (get_or xs i d) ++ 10 ∷ []) p q)
