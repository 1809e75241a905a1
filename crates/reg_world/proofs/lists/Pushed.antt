-- A list of so many values grows by the next.
use Rattle.std.proofs.Common.{ℕ, ◌≡◌, ◌+◌, ◌<◌, List, [], ◌∷◌, ◌++◌, map, length, take, get_or, sym, ap, ◌∙◌}
use Rattle.std.proofs.lemmas.List.{take_more, map-append}

pub one_more : {X : Type 0} (values : ℕ → List X) (n : ℕ) (x y : X) (old new : List X)
    → values n ++ x ∷ [] ≡ values (n + 1) → old ≡ values n → y ≡ x → new ≡ old ++ y ∷ [] → new ≡ values (n + 1)
one_more values n x y old new on so_far same pushed =
    pushed ∙ (ap (λ l. l ++ y ∷ []) so_far ∙ (ap (λ z. values n ++ z ∷ []) same ∙ on))

pub map_more : {X Y : Type 0} (f : X → Y) (xs : List X) (i : ℕ) (d : X) (old new : List Y) → i < length xs
    → old ≡ map f (take i xs) → new ≡ old ++ f (get_or xs i d) ∷ [] → new ≡ map f (take (i + 1) xs)
map_more f xs i d old new l so_far pushed =
    let x = get_or xs i d in
    pushed ∙ (ap (λ l. l ++ f x ∷ []) so_far ∙ (sym (map-append f (take i xs) (x ∷ [])) ∙ ap (map f) (sym (take_more xs i d l))))
