-- What is put in several lines.
use Rattle.std.proofs.Common.{ℕ, ◌≡◌, ◌+◌, ◌<◌, ◌≤◌, List, [], ◌∷◌, ◌++◌, length, map, take, get_or, Option, codes}
use Rattle.std.proofs.Common.{refl, sym, ap, ◌∙◌, take_all, append-nil}
use Rattle.std.specs.Fmt.{decimal}
use Rattle.std.specs.List.{flat_map}
use Rattle.std.proofs.lemmas.Grind.{flat_map-append}
use Rattle.std.proofs.lemmas.List.{take_more}
use Rattle.std.proofs.lemmas.List.Folds.{flat_map-map}
use Rattle.reg_outcomes.specs.declared.told.ToldAnswer.{ToldAnswer}
use Rattle.reg_text.specs.declared.writing.Sink.{Sink}
use Rattle.reg_text.specs.Lines.{text_of}
use Rattle.reg_text.specs.Writing.{Puts}
use Rattle.reg_text.proofs.Sent.{puts_as, puts_four, puts_two}
use Rattle.reg_outcomes.specs.Interleavings.{Interleaving}
use Rattle.reg_outcomes.specs.AllText.{all_text, never_lines, outcome_text, values_text}

-- the lines of all of them
pub all_lines : {X : Type 0} (line : X → List ℕ) (xs : List X) (i : ℕ) → length xs ≤ i
    → flat_map (λ x. line x ++ 10 ∷ []) (take i xs) ≡ text_of (map line xs)
all_lines line xs i le =
    ap (flat_map (λ x. line x ++ 10 ∷ [])) (take_all i xs le) ∙ sym (flat_map-map (λ l. l ++ 10 ∷ []) line xs)

pub all_lists : {X : Type 0} (read : X → List ToldAnswer) (xs : List X) (i : ℕ) → length xs ≤ i
    → flat_map (λ x. values_text (read x) ++ 10 ∷ []) (take i xs) ≡ text_of (map values_text (map read xs))
all_lists read xs i le = all_lines (λ x. values_text (read x)) xs i le ∙ ap text_of (two read xs)
  where
    two : {X : Type 0} (read : X → List ToldAnswer) (xs : List X) → map (λ x. values_text (read x)) xs ≡ map values_text (map read xs)
    two read [] = refl
    two read (x ∷ xs) = ap (λ l. values_text (read x) ∷ l) (two read xs)

-- the lines as they are put are those of the text
pub puts_all : {S : Type 0} (held : S → Option (List ℕ)) (operations stages : ℕ) (found : List Interleaving)
    (nevers : Option (List (List ToldAnswer))) (a b c d e f : Sink S)
    → Puts held a b ((codes "operations " ++ decimal operations) ++ 10 ∷ []) → Puts held b c ((codes "stages " ++ decimal stages) ++ 10 ∷ []) → Puts held c d ((codes "outcomes " ++ decimal (length found)) ++ 10 ∷ [])
    → Puts held d e (text_of (map outcome_text found)) → Puts held e f (text_of (never_lines nevers)) → Puts held a f (all_text operations stages found nevers)
puts_all held operations stages found nevers a b c d e f p q r s t =
    let x : List ℕ = (codes "operations " ++ decimal operations) ++ 10 ∷ [] in
    let y : List ℕ = (codes "stages " ++ decimal stages) ++ 10 ∷ [] in
    let z : List ℕ = (codes "outcomes " ++ decimal (length found)) ++ 10 ∷ [] in
    let lines : List ℕ = text_of (map outcome_text found) in
    let last : List ℕ = text_of (never_lines nevers) in
    puts_as held a f (x ++ (y ++ (z ++ (lines ++ last)))) (all_text operations stages found nevers)
    (ap (λ l. x ++ (y ++ (z ++ l))) (sym (flat_map-append (λ line. line ++ 10 ∷ []) (map outcome_text found) (never_lines nevers))))
    (puts_four held a b c d f x y z (lines ++ last) p q r (puts_two held d e f lines last s t))

-- one more part of a list
pub puts_next : {S : Type 0} (held : S → Option (List ℕ)) {X : Type 0} (a b c : Sink S) (f : X → List ℕ) (xs : List X)
    (i : ℕ) (d : X)
    → i < length xs → Puts held a b (flat_map f (take i xs)) → Puts held b c (f (get_or xs i d))
    → Puts held a c (flat_map f (take (i + 1) xs))
puts_next held a b c f xs i d l p q =
    puts_as held a c (flat_map f (take i xs) ++ f (get_or xs i d)) (flat_map f (take (i + 1) xs))
    (sym (ap (flat_map f) (take_more xs i d l) ∙ flat_map-append f (take i xs) (get_or xs i d ∷ []) ∙ ap (λ t. flat_map f (take i xs) ++ t) (append-nil (f (get_or xs i d)))))
    (puts_two held a b c (flat_map f (take i xs)) (f (get_or xs i d)) p q)
