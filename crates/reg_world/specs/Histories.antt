-- What events add to a history, by its entries alone.
use Rattle.std.specs.Prelude.{ℕ, ◌≡◌, List, [], ◌∷◌, ◌++◌, length, Option, Some, None}
use Rattle.reg_base.specs.declared.memory.OpId.{OpId}
use Rattle.reg_process.specs.declared.steps.Reply.{Reply}
use Rattle.reg_checkers.specs.declared.entries.Entry.{Entry}
use Rattle.reg_checkers.specs.declared.entries.Entry.TheVariants.{Called, Answered}
use Rattle.reg_checkers.specs.History.{IsNext, WasCalled, IsFinished}
use Rattle.reg_process.specs.declared.events.Event.{Event}
use Rattle.reg_process.specs.declared.events.Event.TheVariants.{Call, Take, Tick}

-- the process that an event is of
abbrev pub process_of : Event → ℕ
process_of (Call p op) = p
process_of (Take from to number) = to
process_of (Tick p) = p

-- the operation was called, and has no answer
abbrev pub IsRunning : List Entry → OpId → Type 0
IsRunning es id = WasCalled es id × (¬ IsFinished es id)

-- A call adds the entry of its call, of the process's next operation, by event at. Other events call nothing.
abbrev pub AddsCall : ℕ → List Entry → Event → List Entry → Type 0
AddsCall at old (Call p op) new = (id : OpId) × (id.process ≡ p) × IsNext old id × (new ≡ old ++ Called at id op ∷ [])
AddsCall at old (Take from to number) new = new ≡ old
AddsCall at old (Tick p) new = new ≡ old

-- A reply adds the answer of the process's running operation, by event at. No reply adds nothing.
abbrev pub AddsAnswer : ℕ → List Entry → ℕ → Option Reply → List Entry → Type 0
AddsAnswer at old p None new = new ≡ old
AddsAnswer at old p (Some reply) new =
    (id : OpId) × (id.process ≡ p) × IsRunning old id × (new ≡ old ++ Answered at id reply.answer ∷ [])

-- event at, with this reply, makes the old history the new one: it adds its call, and then its answer
abbrev pub Grows : ℕ → List Entry → Event → Option Reply → List Entry → Type 0
Grows at old e reply new =
    (called : List Entry) × AddsCall at old e called × AddsAnswer at called (process_of e) reply new

-- the events, one after another, make this history, from the empty one
pub data Makes : List Event → List Entry → Type 0 where
  Nothing : Makes [] []
  More : {events : List Event} {old new : List Entry} (e : Event) (reply : Option Reply) → Makes events old
      → Grows (length events) old e reply new → Makes (events ++ e ∷ []) new
