-- What no outcome tells, though each answer of it stands in some outcome. To be believed: promises speak of it.
use Rattle.std.specs.Prelude.{ℕ, ◌≡◌, ◌<◌, ◌≤◌, List, length, map, Option, None, Some}
use Rattle.std.specs.declared.cmp.Ordering.TheVariants.{Less}
use Rattle.std.specs.Cmp.Lexicographic.{slice_cmp}
use Rattle.reg_checkers.specs.History.{IsAt}
use Rattle.reg_outcomes.specs.declared.told.ToldAnswer.{ToldAnswer}
use Rattle.reg_outcomes.specs.Told.{told_cmp}
use Rattle.reg_outcomes.specs.Interleavings.{Interleaving}

-- what interleavings tell
abbrev pub tells : List Interleaving → List (List ToldAnswer)
tells found = map (λ i. i.told) found

-- In one of these outcomes this answer stands at this place. A told answer names its operation.
abbrev pub StandsAt : List (List ToldAnswer) → ℕ → ToldAnswer → Type 0
StandsAt outcomes k v = (i : ℕ) × (o : List ToldAnswer) × IsAt outcomes i o × IsAt o k v

-- As many answers as an outcome has, each of which stands at its place in some outcome, and which no outcome has
-- together.
pub record IsNever (outcomes : List (List ToldAnswer)) (told : List ToldAnswer) : Type 0 where
  pub whole : (first : List ToldAnswer) × IsAt outcomes 0 first × (length told ≡ length first)
  pub each : (k : ℕ) (v : ToldAnswer) → IsAt told k v → StandsAt outcomes k v
  pub none : (i : ℕ) → ¬ IsAt outcomes i told

-- These are all the lists of which `IsNever` holds, and they rise, so each stands once.
pub record AreNevers (outcomes nevers : List (List ToldAnswer)) : Type 0 where
  pub each : (k : ℕ) (told : List ToldAnswer) → IsAt nevers k told → IsNever outcomes told
  pub all : (told : List ToldAnswer) → IsNever outcomes told → (k : ℕ) × IsAt nevers k told
  pub rising : (k l : ℕ) (s t : List ToldAnswer) → IsAt nevers k s → IsAt nevers l t → k < l
      → slice_cmp told_cmp s t ≡ Less

-- There are more lists of which `IsNever` holds than `most`.
pub record AreOver (outcomes : List (List ToldAnswer)) (most : ℕ) : Type 0 where
  pub nevers : List (List ToldAnswer)
  pub more : most < length nevers
  pub once : (i j : ℕ) (told : List ToldAnswer) → IsAt nevers i told → IsAt nevers j told → i ≡ j
  pub each : (k : ℕ) (told : List ToldAnswer) → IsAt nevers k told → IsNever outcomes told

-- All the lists of which `IsNever` holds, no more than `most`; or None, where there are more.
abbrev pub TellsNevers : List (List ToldAnswer) → ℕ → Option (List (List ToldAnswer)) → Type 0
TellsNevers outcomes most None = AreOver outcomes most
TellsNevers outcomes most (Some nevers) = AreNevers outcomes nevers × (length nevers ≤ most)
