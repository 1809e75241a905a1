-- What a drawing of a run joins.
use Rattle.std.specs.Prelude.{ℕ, ◌≡◌, ◌+◌, ◌<◌, ◌==◌, ◌&&◌, Bool, false, cond, List, [], ◌∷◌, ◌++◌, map, All, Option}
use Rattle.std.specs.Prelude.{None, Some, position}
use Rattle.std.specs.List.{list_any}
use Rattle.reg_base.specs.declared.memory.OpId.{OpId}
use Rattle.reg_checkers.specs.declared.entries.Entry.{Entry}
use Rattle.reg_checkers.specs.declared.entries.Entry.TheVariants.{Called, Answered}
use Rattle.reg_process.specs.declared.events.Event.{Event}
use Rattle.reg_process.specs.declared.events.Event.TheVariants.{Call, Take, Tick}
use Rattle.reg_trace.specs.declared.figures.Arrow.{Arrow}
use Rattle.reg_trace.specs.declared.figures.Bar.{Bar}
use Rattle.reg_trace.specs.declared.figures.End.{End}
use Rattle.reg_trace.specs.declared.moments.Sent.{Sent}
use Rattle.reg_trace.specs.Moments.{Fact}

-- the answer of an operation: the first of its id
abbrev pub end_of : OpId → List Entry → Option End
end_of id [] = None
end_of id (Called at other op ∷ es) = end_of id es
end_of id (Answered at other answer ∷ es) =
    cond ((other.process == id.process) && (other.number == id.number)) (Some (record { at = at; answer = answer }))
    (end_of id es)

-- a bar for each call of the entries, up to its answer in the history h, or open
abbrev pub bars_in : List Entry → List Entry → List Bar
bars_in h [] = []
bars_in h (Called at id op ∷ es) = record { id = id; op = op; call = at; end = end_of id h } ∷ bars_in h es
bars_in h (Answered at id answer ∷ es) = bars_in h es

-- a bar for each operation of a history
abbrev pub bars_of : List Entry → List Bar
bars_of h = bars_in h h

-- whether the event put the frame at this place of the wire from one process to another
abbrev pub is_put : ℕ → ℕ → ℕ → Fact → Bool
is_put from to place f = (f.process == from) && list_any (λ (s : Sent). (s.to == to) && (s.place == place)) f.sent

-- the number of the event that put the frame
abbrev pub putter : ℕ → ℕ → ℕ → List Fact → Option ℕ
putter from to place facts = position (is_put from to place) facts

-- the arrow of a take, the event k, from the event that put its frame
abbrev pub arrow_from : ℕ → ℕ → ℕ → ℕ → Option ℕ → List Arrow
arrow_from k from to place None = []
arrow_from k from to place (Some puts) = record { from = from; to = to; place = place; puts = puts; takes = k } ∷ []

abbrev pub arrow_of : List Fact → ℕ → Event → List Arrow
arrow_of facts k (Call p op) = []
arrow_of facts k (Take from to place) = arrow_from k from to place (putter from to place facts)
arrow_of facts k (Tick p) = []

-- the arrows of the takes among these moments of the run, the first of which has the number k
abbrev pub arrows_in : List Fact → ℕ → List Fact → List Arrow
arrows_in facts k [] = []
arrows_in facts k (f ∷ fs) = arrow_of facts k f.event ++ arrows_in facts (k + 1) fs

-- an arrow for each take of a run
abbrev pub arrows_of : List Fact → List Arrow
arrows_of facts = arrows_in facts 0 facts

-- whether an event takes the frame at this place of the wire from one process to another
abbrev pub takes_from : ℕ → ℕ → ℕ → Event → Bool
takes_from from to place (Call p op) = false
takes_from from to place (Take a b number) = (a == from) && ((b == to) && (number == place))
takes_from from to place (Tick p) = false

-- the numbers of the takes among these events, the first of which has the number k
abbrev pub takes_in : ℕ → List Event → List ℕ
takes_in k [] = []
takes_in k (Call p op ∷ es) = takes_in (k + 1) es
takes_in k (Take from to place ∷ es) = k ∷ takes_in (k + 1) es
takes_in k (Tick p ∷ es) = takes_in (k + 1) es

-- Each take of these events has one arrow, in order, and its frame was put by an earlier event.
pub record HaveArrows (events : List Event) (arrows : List Arrow) : Type 0 where
  pub each : map (λ (a : Arrow). a.takes) arrows ≡ takes_in 0 events
  pub earlier : All (λ (a : Arrow). a.puts < a.takes) arrows
