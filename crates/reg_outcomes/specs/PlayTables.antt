-- The table of a list of plays. To be believed: promises speak of it.
use Rattle.std.specs.Prelude.{ℕ, ◌≡◌, ◌≢◌, ◌<◌, ◌≤◌, ◌⊎◌, Bool, true, false, List, [], ◌∷◌, length, Option, Some, None}
use Rattle.std.specs.declared.cmp.Ordering.TheVariants.{Less}
use Rattle.std.specs.Cmp.Lexicographic.{slice_cmp}
use Rattle.reg_checkers.specs.History.{IsAt}
use Rattle.reg_outcomes.specs.declared.told.ToldAnswer.{ToldAnswer}
use Rattle.reg_outcomes.specs.Told.{told_cmp}
use Rattle.reg_outcomes.specs.declared.tables.tallies.Tally.{Tally}

-- What is known of a play: the seed of its words, whether it is finished, the number of its events, what its operations
-- told, and whether its history is linearizable.
pub record Seen : Type 0 where
  pub seed : ℕ
  pub is_finished : Bool
  pub events : ℕ
  pub outcome : List ToldAnswer
  pub linearizable : Bool

-- a line of a table: an outcome, and what is told of it
pub record Line : Type 0 where
  pub outcome : List ToldAnswer
  pub tally : Tally

-- ys are the xs of which P holds, in their order
pub data AreThose {X : Type 0} (P : X → Type 0) : List X → List X → Type 0 where
  Nothing : AreThose P [] []
  Takes : {x : X} {xs ys : List X} → P x → AreThose P xs ys → AreThose P (x ∷ xs) (x ∷ ys)
  Leaves : {x : X} {xs ys : List X} → ¬ P x → AreThose P xs ys → AreThose P (x ∷ xs) ys

-- the play is finished, with this outcome
pub record HasOutcome (outcome : List ToldAnswer) (s : Seen) : Type 0 where
  pub finished : s.is_finished ≡ true
  pub same : s.outcome ≡ outcome

-- the play has more events, or as many and no smaller seed
abbrev pub IsNoShorter : Tally → Seen → Type 0
IsNoShorter t s = (t.events < s.events) ⊎ ((t.events ≡ s.events) × (t.seed ≤ s.seed))

-- The seed of the first of these plays that is linearizable, or of the first that is not, and None where there is none.
abbrev pub IsFirst : Bool → List Seen → Option ℕ → Type 0
IsFirst kind plays None = (k : ℕ) (s : Seen) → IsAt plays k s → s.linearizable ≢ kind
IsFirst kind plays (Some seed) =
    (k : ℕ) × (s : Seen) × IsAt plays k s × (s.linearizable ≡ kind) × (s.seed ≡ seed)
    × ((j : ℕ) (other : Seen) → IsAt plays j other → other.linearizable ≡ kind → k ≤ j)

-- What is told of plays: how many they are; the seed and the events of one of them, none of which is shorter, nor as
-- short with a smaller seed; and the seeds of the first that is linearizable, and of the first that is not.
pub record IsTally (plays : List Seen) (t : Tally) : Type 0 where
  pub count : t.count ≡ length plays
  pub shortest : (k : ℕ) × (s : Seen) × IsAt plays k s × (s.events ≡ t.events) × (s.seed ≡ t.seed)
  pub least : (k : ℕ) (s : Seen) → IsAt plays k s → IsNoShorter t s
  pub in_time : IsFirst true plays t.in_time
  pub late : IsFirst false plays t.late

-- what is told of the plays with this outcome
abbrev pub IsTallyOf : List Seen → List ToldAnswer → Tally → Type 0
IsTallyOf plays outcome t = (those : List Seen) × AreThose (HasOutcome outcome) plays those × IsTally those t

-- a line with a larger count stands before one with a smaller, and of two with the same count the one with the smaller
-- outcome: the first answer in which they differ decides
abbrev pub StandsBefore : Line → Line → Type 0
StandsBefore a b =
    (b.tally.count < a.tally.count)
    ⊎ ((a.tally.count ≡ b.tally.count) × (slice_cmp told_cmp a.outcome b.outcome ≡ Less))

-- The table of these plays: each line tells of the plays with its outcome, the outcome of each finished play has a
-- line, no two lines have the same outcome, and they stand in their order.
pub record IsTable (plays : List Seen) (lines : List Line) : Type 0 where
  pub each : (i : ℕ) (line : Line) → IsAt lines i line → IsTallyOf plays line.outcome line.tally
  pub all : (k : ℕ) (s : Seen) → IsAt plays k s → s.is_finished ≡ true
      → (i : ℕ) × (line : Line) × IsAt lines i line × (line.outcome ≡ s.outcome)
  pub once : (i j : ℕ) (a b : Line) → IsAt lines i a → IsAt lines j b → a.outcome ≡ b.outcome → i ≡ j
  pub ordered : (i j : ℕ) (a b : Line) → IsAt lines i a → IsAt lines j b → i < j → StandsBefore a b

-- this is the number of plays that are not finished: some operation of theirs is not answered
abbrev pub CountsUnfinished : List Seen → ℕ → Type 0
CountsUnfinished plays n = (those : List Seen) × AreThose (λ s. s.is_finished ≡ false) plays those × (n ≡ length those)
