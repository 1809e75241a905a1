-- What a drawing is, as far as clauses say it.
use Rattle.std.specs.Prelude.{ℕ, ◌≡◌, List, [], ◌∷◌, ◌++◌, codes}

-- The text of a drawing is an element svg, from its start to its end.
pub record IsDrawing (text : List ℕ) : Type 0 where
  pub inside : List ℕ
  pub whole : text ≡ codes "<svg " ++ (inside ++ (codes "</svg>" ++ 10 ∷ []))
