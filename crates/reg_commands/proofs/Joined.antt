-- Items that are put one after another.
use Rattle.std.proofs.Common.{ℕ, ◌≡◌, ◌+◌, ◌<◌, List, [], ◌∷◌, ◌++◌, length, map, take, get_or, codes, Option, refl}
use Rattle.std.proofs.Common.{sym, ap, ◌∙◌, append-nil, arith}
use Rattle.std.specs.Prelude.{flat_map}
use Rattle.std.proofs.lemmas.Grind.{flat_map-append}
use Rattle.std.proofs.lemmas.List.{append_assoc, length-map, length-take-le, map-append, take_more}
use Rattle.reg_text.specs.declared.writing.Sink.{Sink}
use Rattle.reg_text.specs.Writing.{Puts}
use Rattle.reg_text.proofs.Sent.{puts_two, puts_as}
use Rattle.std.specs.Fmt.{decimal}
use Rattle.reg_front.specs.Table.{front_name}
use Rattle.reg_inputs.specs.Loads.{Load}
use Rattle.reg_commands.specs.Layout.{between, joined, key_line, load_text, names_array, quoted, scripts_array}

abbrev comma : List ℕ → List ℕ
comma item = codes ", " ++ item

-- one more item at the end
joined_more : (items : List (List ℕ)) (item : List ℕ)
    → joined (items ++ item ∷ []) ≡ joined items ++ (between (length items) ++ item)
joined_more [] item = append-nil item
joined_more (first ∷ items) item =
    let later : flat_map comma (items ++ item ∷ []) ≡ flat_map comma items ++ comma item = flat_map-append comma items (item ∷ []) ∙ ap (λ l. flat_map comma items ++ l) (append-nil (comma item)) in
    ap (λ l. first ++ l) later ∙ sym (append_assoc first (flat_map comma items) (comma item))

-- one more item of a list, as texts
more : {X : Type 0} (f : X → List ℕ) (xs : List X) (i : ℕ) (d : X) → i < length xs
    → joined (map f (take (i + 1) xs)) ≡ joined (map f (take i xs)) ++ (between i ++ f (get_or xs i d))
more f xs i d within =
    let so_far : length (map f (take i xs)) ≡ i = length-map (take i xs) f ∙ length-take-le i xs (omega arith) in
    ap (λ ys. joined (map f ys)) (take_more xs i d within) ∙ ap joined (map-append f (take i xs) (get_or xs i d ∷ [])) ∙ joined_more (map f (take i xs)) (f (get_or xs i d))
    ∙ ap (λ k. joined (map f (take i xs)) ++ (between k ++ f (get_or xs i d))) so_far

pub puts_item : {S X : Type 0} (held : S → Option (List ℕ)) (a b c : Sink S) (f : X → List ℕ) (xs : List X) (i : ℕ)
    (d : X)
    → i < length xs
    → Puts held a b (joined (map f (take i xs))) → Puts held b c (between i ++ f (get_or xs i d)) → Puts held a c (joined (map f (take (i + 1) xs)))
puts_item held a b c f xs i d within p q =
    puts_as held a c (joined (map f (take i xs)) ++ (between i ++ f (get_or xs i d))) (joined (map f (take (i + 1) xs))) (sym (more f xs i d within))
    (puts_two held a b c (joined (map f (take i xs))) (between i ++ f (get_or xs i d)) p q)

pub map_twice : {X Y Z : Type 0} (f : Y → Z) (g : X → Y) (xs : List X) → map (λ x. f (g x)) xs ≡ map f (map g xs)
map_twice f g [] = refl
map_twice f g (x ∷ xs) = ap (λ l. f (g x) ∷ l) (map_twice f g xs)

-- the lines of a workload are its layout
pub puts_load : {S : Type 0} (held : S → Option (List ℕ)) (w : Load) (a b c d e f g h : Sink S)
    → Puts held a b (key_line (codes "budget") (decimal w.budget)) → Puts held b c (key_line (codes "front") (quoted (front_name w.front)))
    → Puts held c d (key_line (codes "loss") (decimal w.loss)) → Puts held d e (key_line (codes "registers") (names_array w.names))
    → Puts held e f (key_line (codes "repeat") (decimal w.repeat)) → Puts held f g (key_line (codes "scripts") (scripts_array w.names w.scripts))
    → Puts held g h (key_line (codes "seed") (decimal w.seed)) → Puts held a h (load_text w)
puts_load held w a b c d e f g h budget front loss registers repeat scripts seed =
    puts_two held a b h _ _ budget (puts_two held b c h _ _ front (puts_two held c d h _ _ loss (puts_two held d e h _ _ registers
    (puts_two held e f h _ _ repeat (puts_two held f g h _ _ scripts seed)))))
