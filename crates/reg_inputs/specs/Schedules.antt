-- The lines of a schedule.
use Rattle.std.specs.Prelude.{ℕ, ◌≡◌, ◌<◌, ◌≤◌, None, List, ◌∷◌, ◌++◌, length, map, codes}
use Rattle.std.specs.Fmt.{decimal}
use Rattle.reg_base.specs.declared.limits.TheConstants.{MOST_PROCESSES, MOST_EVENTS}
use Rattle.reg_base.specs.Shape.{Extent}
use Rattle.reg_base.specs.Names.{names_fault}
use Rattle.reg_front.specs.declared.named.Front.{Front}
use Rattle.reg_front.specs.Table.{front_name}
use Rattle.reg_process.specs.declared.events.Event.{Event}
use Rattle.reg_process.specs.declared.events.Event.TheVariants.{Call, Take, Tick}
use Rattle.reg_text.specs.Ops.{op_text, OpFits}
use Rattle.reg_text.specs.Words.{names_text}
use Rattle.reg_text.specs.Lines.{AllFit, lines_of, kept}

-- the line of an event
abbrev pub event_text : List (List ℕ) → Event → List ℕ
event_text names (Call process op) = codes "call " ++ (decimal process ++ 32 ∷ op_text names op)
event_text names (Take from to number) = codes "take " ++ (decimal from ++ 32 ∷ (decimal to ++ 32 ∷ decimal number))
event_text names (Tick process) = codes "tick " ++ decimal process

-- numbers that a line may have: the world judges whether there is such a process or frame
abbrev pub EventFits : List (List ℕ) → Event → Type 0
EventFits names (Call process op) = (process ≤ 255) × OpFits names op
EventFits names (Take from to number) = (from ≤ 255) × (to ≤ 255) × (number ≤ 4294967295)
EventFits names (Tick process) = process ≤ 255

-- what a schedule holds
pub record Plan : Type 0 where
  pub shape : Extent
  pub names : List (List ℕ)
  pub front : Front
  pub events : List Event

-- the three header lines, and then the rest
abbrev pub plan_head : ℕ → List (List ℕ) → Front → List (List ℕ) → List (List ℕ)
plan_head processes names front rest =
    (codes "processes " ++ decimal processes) ∷ (codes "registers" ++ names_text names)
    ∷ (codes "front " ++ front_name front) ∷ rest

-- the lines of a schedule, one for each event after the header lines
abbrev pub plan_lines : Plan → List (List ℕ)
plan_lines p = plan_head p.shape.processes p.names p.front (map (event_text p.names) p.events)

-- within the limits of a schedule
pub record IsPlan (p : Plan) : Type 0 where
  pub names : names_fault p.names ≡ None
  pub some_process : 0 < p.shape.processes
  pub processes : p.shape.processes ≤ MOST_PROCESSES
  pub registers : p.shape.registers ≡ length p.names
  pub events : AllFit (λ _ e. EventFits p.names e) p.events
  pub few : length p.events ≤ MOST_EVENTS

-- the lines that are neither empty nor begin with # are those of the plan
abbrev pub Spells : List ℕ → Plan → Type 0
Spells text p = kept (lines_of text) ≡ plan_lines p
