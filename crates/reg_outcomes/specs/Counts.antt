-- Tallies under way. They carry a proof: of them only what a table says is to be believed.
use Rattle.std.specs.Prelude.{ℕ, ◌≡◌, ◌≢◌, ◌⊎◌, true, List, Option, None, Some, IfSome, ◌<◌, ◌-◌, ◌^◌}
use Rattle.std.specs.declared.cmp.Ordering.{Ordering}
use Rattle.std.specs.Ordering.{nat_cmp, ordering_then}
use Rattle.std.specs.Cmp.Lexicographic.{slice_cmp}
use Rattle.std.specs.BTreeMap.{BTreeMap, get}
use Rattle.reg_checkers.specs.History.{IsAt}
use Rattle.reg_outcomes.specs.declared.told.ToldAnswer.{ToldAnswer}
use Rattle.reg_outcomes.specs.declared.tables.tallies.Glance.{Glance}
use Rattle.reg_outcomes.specs.declared.tables.tallies.Tally.{Tally}
use Rattle.reg_outcomes.specs.Told.{told_cmp}
use Rattle.reg_outcomes.specs.PlayTables.{Seen, Line, IsNoShorter, IsTallyOf, CountsUnfinished}

-- a finished play with this outcome
abbrev pub finished_play : List ToldAnswer → Glance → Seen
finished_play outcome g =
    record { seed = g.seed; is_finished = true; events = g.events; outcome = outcome; linearizable = g.linearizable }

-- the play is shorter than the ones told of, or as short with a smaller seed
abbrev pub IsShorter : Seen → Tally → Type 0
IsShorter s t = (s.events < t.events) ⊎ ((s.events ≡ t.events) × (s.seed < t.seed))

-- which play is the shortest now
abbrev pub IsShortest : Seen → Tally → ℕ → ℕ → Type 0
IsShortest s t events seed =
    (IsShorter s t × (events ≡ s.events) × (seed ≡ s.seed)) ⊎ (IsNoShorter t s × (events ≡ t.events) × (seed ≡ t.seed))

-- what is told of the plays with this outcome: nothing, where there is none
abbrev pub TellsOf : List Seen → List ToldAnswer → Option Tally → Type 0
TellsOf plays outcome None = (k : ℕ) (s : Seen) → IsAt plays k s → s.is_finished ≡ true → s.outcome ≢ outcome
TellsOf plays outcome (Some t) = IsTallyOf plays outcome t

-- the order of keys by the outcomes that they hold
abbrev pub key_cmp : {K : Type 0} → (K → List ToldAnswer) → K → K → Ordering
key_cmp items a b = slice_cmp told_cmp (items a) (items b)

-- The map tells of the plays by their outcomes, and the given number of plays is not finished.
pub record IsCounted {K : Type 0} (items : K → List ToldAnswer) (plays : List Seen) (told : BTreeMap K Tally)
    (unfinished : ℕ) : Type 0 where
  pub tells : (q : K) → TellsOf plays (items q) (get (key_cmp items) told q)
  pub known : (k : ℕ) (s : Seen) → IsAt plays k s → s.is_finished ≡ true → (q : K) × (items q ≡ s.outcome)
  pub others : CountsUnfinished plays unfinished

-- each count can grow by one
abbrev pub HasRoom : {K : Type 0} → (K → List ToldAnswer) → BTreeMap K Tally → Type 0
HasRoom {K} items told = (q : K) → IfSome (get (key_cmp items) told q) (λ t. t.count < 2 ^ 32 - 1)

-- an entry as a line
abbrev pub line_of : {K : Type 0} → (K → List ToldAnswer) → K × Tally → Line
line_of items e = record { outcome = items e.0; tally = e.1 }

-- the order of lines in a table
abbrev pub line_cmp : Line → Line → Ordering
line_cmp a b = ordering_then (nat_cmp b.tally.count a.tally.count) (slice_cmp told_cmp a.outcome b.outcome)
