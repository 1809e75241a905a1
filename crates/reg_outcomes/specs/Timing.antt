-- Places in an order, what was answered so far, and what is known of a finished play. They carry a proof: no promise
-- speaks of them.
use Rattle.std.specs.Prelude.{ℕ, ◌≡◌, ◌↔◌, ◌+◌, ◌<◌, ◌⊎◌, nat_lt, cond, max, suc, true, length, List, Option, None}
use Rattle.std.specs.Prelude.{Some}
use Rattle.std.specs.declared.cmp.Ordering.{Ordering}
use Rattle.std.specs.Ordering.{nat_cmp, ordering_then}
use Rattle.reg_base.specs.declared.memory.OpId.{OpId}
use Rattle.reg_base.specs.declared.memory.Answer.{Answer}
use Rattle.reg_base.specs.declared.memory.Op.{Op}
use Rattle.reg_checkers.specs.declared.entries.Entry.{Entry}
use Rattle.reg_checkers.specs.declared.entries.Entry.TheVariants.{Called, Answered}
use Rattle.reg_checkers.specs.History.{IsAt}
use Rattle.reg_outcomes.specs.Told.{outcome_of}
use Rattle.reg_outcomes.specs.PlayTables.{Seen}
use Rattle.reg_world.specs.Worlds.{Made}
use Rattle.reg_outcomes.specs.Outcomes.{IsLinearizable}

-- by process, then by number
abbrev pub id_cmp : OpId → OpId → Ordering
id_cmp a b = ordering_then (nat_cmp a.process b.process) (nat_cmp a.number b.number)

-- the id stands at this place, or nowhere
abbrev pub IsPlaceOf : List OpId → OpId → Option ℕ → Type 0
IsPlaceOf ids id None = (k : ℕ) → ¬ IsAt ids k id
IsPlaceOf ids id (Some place) = IsAt ids place id

-- the bound after a call, where all that was answered so far stands before this place
abbrev pub called_bound : Option ℕ → ℕ → Option ℕ
called_bound None bound = Some bound
called_bound (Some place) bound = cond (nat_lt place bound) None (Some bound)

-- the bound after an answer
abbrev pub answered_bound : Option ℕ → ℕ → ℕ
answered_bound None bound = bound
answered_bound (Some place) bound = max bound (place + 1)

-- the bound after one entry more
abbrev pub bound_next : (OpId → Option ℕ) → ℕ → Entry → Option ℕ
bound_next place bound (Called at id op) = called_bound (place id) bound
bound_next place bound (Answered at id answer) = Some (answered_bound (place id) bound)

-- So far each operation that was called stands after those that were answered before it in the history, and this is the
-- place after all that were answered.
pub record IsInTime (es : List Entry) (ids : List OpId) (bound : ℕ) : Type 0 where
  pub above : (k i at : ℕ) (a : OpId) (answer : Answer) → IsAt es k (Answered at a answer) → IsAt ids i a → i < bound
  pub tight : (bound ≡ 0)
      ⊎ ((k : ℕ) × (i : ℕ) × (at : ℕ) × (a : OpId) × (answer : Answer) × IsAt es k (Answered at a answer) × IsAt ids i a
      × (suc i ≡ bound))
  pub kept : (k l i j s t : ℕ) (a b : OpId) (answer : Answer) (op : Op) → IsAt es k (Answered s a answer)
      → IsAt es l (Called t b op) → k < l → IsAt ids i a → IsAt ids j b → i < j

-- what is known of a finished play
pub record IsSeenIn (made : Made) (seed : ℕ) (s : Seen) : Type 0 where
  pub seeded : s.seed ≡ seed
  pub finished : s.is_finished ≡ true
  pub events : s.events ≡ length made.accepted
  pub outcome : s.outcome ≡ outcome_of made.processes made.history
  pub time : (s.linearizable ≡ true) ↔ IsLinearizable made.registers made.history
