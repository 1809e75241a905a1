-- Fair plays: the frames of each wire are taken in order, each once.
use Rattle.std.specs.Prelude.{ℕ, ◌≡◌, ◌+◌, ◌-◌, ◌*◌, ◌==◌, ◌&&◌, cond, List, [], ◌∷◌, length}
use Rattle.reg_base.specs.declared.memory.Op.{Op}
use Rattle.reg_process.specs.declared.events.Event.{Event}
use Rattle.reg_process.specs.declared.events.Event.TheVariants.{Call, Take, Tick}
use Rattle.std.specs.List.{flat_map, range_with_len, sum_by}

-- the numbers of the frames of a wire that are taken, and the processes that tick, in an event and in these events, in
-- order
abbrev pub take_at : ℕ → ℕ → Event → List ℕ
take_at from to (Call p op) = []
take_at from to (Take a b number) = cond ((a == from) && (b == to)) (number ∷ []) []
take_at from to (Tick p) = []

abbrev pub takes_of : ℕ → ℕ → List Event → List ℕ
takes_of from to events = flat_map (take_at from to) events

abbrev pub tick_in : Event → List ℕ
tick_in (Call p op) = []
tick_in (Take a b number) = []
tick_in (Tick p) = p ∷ []

abbrev pub ticks_of : List Event → List ℕ
ticks_of events = flat_map tick_in events

-- the frames of each wire are taken in order, each once, and none is put again
pub record TakesInOrder (events : List Event) : Type 0 where
  pub takes : (from to : ℕ) → takes_of from to events ≡ range_with_len 0 (length (takes_of from to events))
  pub ticks : ticks_of events ≡ []

-- How many events a call brings about at most, itself among them: a take of its cast, of the count that answers it, of
-- an acknowledgement for each other process and of the count that answers that, at each other process.
abbrev pub most_for_call : ℕ → ℕ
most_for_call n = 1 + 2 * n * (n - 1)

-- how many events a fair play of these scripts has at most
abbrev pub most_fair_events : ℕ → List (List Op) → ℕ
most_fair_events n scripts = sum_by length scripts * most_for_call n
