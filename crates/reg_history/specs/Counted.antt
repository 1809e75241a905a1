-- The lists of a report, each with its count in front. To be believed: promises speak of them.
use Rattle.std.specs.Prelude.{ℕ, List, ◌∷◌, ◌++◌, length, map}
use Rattle.std.specs.Fmt.{decimal}

-- a line with the count, and a line for each
abbrev pub counted_lines : {X : Type 0} → List ℕ → (X → List ℕ) → List X → List (List ℕ) → List (List ℕ)
counted_lines mark line_of xs rest = (mark ++ decimal (length xs)) ∷ (map line_of xs ++ rest)
