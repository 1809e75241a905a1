-- The line of a title that isn't empty.
use Rattle.std.proofs.Common.{◌≡◌, ◌==◌, List, [], ◌∷◌, ◌++◌, ℕ, Bool, true, false, length, refl}
use Rattle.reg_trace.specs.Traces.{title_line}

pub line_of_title : (title : List ℕ) (is_empty : Bool) → is_empty ≡ (length title == 0) → is_empty ≡ false
    → title ++ 10 ∷ [] ≡ title_line title
line_of_title [] true is some = absurd cc
line_of_title [] false is some = absurd cc
line_of_title (b ∷ title) is_empty is some = refl
