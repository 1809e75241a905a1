-- The turns of a record, as its reader plays it. They carry a proof: no promise speaks of them.
use Rattle.std.specs.Prelude.{ℕ, ◌≡◌, ◌<◌, Bool, true, false, List, length, take, Some, slice_index}
use Rattle.reg_base.specs.declared.memory.Op.{Op}
use Rattle.reg_frames.specs.declared.bodies.Frame.{Frame}
use Rattle.reg_front.specs.declared.starts.Start.{Start}
use Rattle.reg_process.specs.declared.steps.Step.{Step}
use Rattle.reg_process.specs.declared.steps.Step.TheVariants.{Call, Take, Tick}
use Rattle.reg_checkers.specs.History.{IsAt}
use Rattle.reg_process.specs.declared.events.Event.{Event}
use Rattle.reg_process.specs.declared.events.Event.TheVariants.{Call as CallOf, Take as TakeOf, Tick as TickOf}
use Rattle.reg_world.specs.Nodes.{Nodes}
use Rattle.reg_world.specs.World.{move_of}
use Rattle.reg_world.specs.Worlds.{Made, run_in, with_event, reply_in}
use Rattle.reg_records.specs.declared.entries.LogEntry.{LogEntry}
use Rattle.reg_records.specs.Records.{Turn, entry_of, mentions}

-- two processes of the world, between which there is a wire
abbrev pub AreTwo : Made → ℕ → ℕ → Type 0
AreTwo w from to = (from < w.processes) × (to < w.processes) × (from ≡ to → ⊥)

-- all frames ever put from one process to another
abbrev pub frames_on : (Op → ℕ → Start) → Made → ℕ → ℕ → List Frame
frames_on start w from to = ((run_in start w).nodes from).wire to

-- in the event the process makes this step, unless it is refused
abbrev pub IsEventOf : Nodes → ℕ → Step → Event → Type 0
IsEventOf w p (Call op) e = e ≡ CallOf p op
IsEventOf w p (Take from frame) e = (number : ℕ) × (e ≡ TakeOf from p number) × IsAt ((w from).wire p) number frame
IsEventOf w p Tick e = e ≡ TickOf p

-- in the event, which is accepted, the process makes this step
abbrev pub Moves : (Op → ℕ → Start) → Made → ℕ → Step → Event → Type 0
Moves start w p step e = move_of w.processes w.registers (run_in start w) e ≡ Some (p, step)

-- no event is this step
abbrev pub NoEvent : (Op → ℕ → Start) → Made → ℕ → Step → Type 0
NoEvent start w p step = (e : Event) → Moves start w p step e → ⊥

-- an event with the entry's step and reply
pub record IsEntry (start : Op → ℕ → Start) (w : Made) (p : ℕ) (entry : LogEntry) (e : Event) : Type 0 where
  pub move : Moves start w p entry.step e
  pub reply : reply_in start w e ≡ entry.reply

-- whether the process made an event with the entry's step and reply
abbrev pub IsMade : (Op → ℕ → Start) → Made → ℕ → LogEntry → Bool → Made → Type 0
IsMade start old p entry true new = (e : Event) × IsEntry start old p entry e × (new ≡ with_event start old e)
IsMade start old p entry false new = (e : Event) → IsEntry start old p entry e → ⊥

-- whether one more mention was played
abbrev pub IsTurn : (Op → ℕ → Start) → List ℕ → List (List LogEntry) → ℕ → Made → Bool → Made → Type 0
IsTurn start order logs place old true new = Turn start order logs place old new
IsTurn start order logs place old false new = (w : Made) → Turn start order logs place old w → ⊥

-- how often each process is mentioned before a place
abbrev pub AreTallied : List ℕ → List ℕ → ℕ → Type 0
AreTallied counts order place = (p : ℕ) → p < length counts → slice_index counts p ≡ mentions p (take place order)

-- the mention at a place is of this process, and stands for this entry of its log
abbrev pub StandsFor : List ℕ → List (List LogEntry) → ℕ → ℕ → LogEntry → Type 0
StandsFor order logs place p entry = IsAt order place p × (entry_of logs p (mentions p (take place order)) ≡ Some entry)

-- the mention at a place stands for no entry
abbrev pub StandsForNone : List ℕ → List (List LogEntry) → ℕ → Type 0
StandsForNone order logs place = (p : ℕ) (entry : LogEntry) → StandsFor order logs place p entry → ⊥
