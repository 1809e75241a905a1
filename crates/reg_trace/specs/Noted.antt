-- What each event did, with its note.
use Rattle.std.specs.Prelude.{ℕ, List, [], ◌∷◌, drop, get_or}
use Rattle.reg_trace.specs.Moments.{Fact}

-- what an event did, and its note
pub record Noted : Type 0 where
  pub fact : Fact
  pub note : List ℕ

-- each event with the note at its place, or with an empty one
abbrev pub noted : List Fact → List (List ℕ) → List Noted
noted [] notes = []
noted (f ∷ facts) notes = record { fact = f; note = get_or notes 0 [] } ∷ noted facts (drop 1 notes)
