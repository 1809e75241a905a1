-- The lists that lie in vectors.
use Rattle.std.specs.Prelude.{List, Vec, map}

-- the list in each of these vectors
abbrev pub lists : {X A : Type 0} → List (Vec X A) → List (List X)
lists vectors = map (λ v. v.items) vectors
