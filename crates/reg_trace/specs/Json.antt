-- The parts of a JSON text.
use Rattle.std.specs.Prelude.{ℕ, suc, zero, List, [], ◌∷◌, ◌++◌, flat_map, map, codes}
use Rattle.std.specs.Fmt.{decimal}

-- the parts, with a comma before each but the first
abbrev pub joined : List (List ℕ) → List ℕ
joined [] = []
joined (part ∷ parts) = part ++ flat_map (λ other. 44 ∷ other) parts

-- what stands before the part at this place
abbrev pub comma_at : ℕ → List ℕ
comma_at zero = []
comma_at (suc place) = 44 ∷ []

-- a list of these values, each with its text
abbrev pub list_text : {X : Type 0} → (X → List ℕ) → List X → List ℕ
list_text text_of xs = codes "[" ++ (joined (map text_of xs) ++ codes "]")

-- a list of these values, with a line for each
abbrev pub lines_text : {X : Type 0} → (X → List ℕ) → List X → List ℕ
lines_text text_of xs = (91 ∷ 10 ∷ []) ++ (joined (map (λ x. text_of x ++ 10 ∷ []) xs) ++ codes "]")

-- a list of numbers
abbrev pub numbers_text : List ℕ → List ℕ
numbers_text numbers = list_text decimal numbers

-- a string, of a text that has neither a quote nor a backslash nor a control character
abbrev pub quoted : List ℕ → List ℕ
quoted text = 34 ∷ (text ++ 34 ∷ [])
