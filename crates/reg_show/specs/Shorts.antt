-- The short form of a play: its events up to the last answer, without those that no answer needs. To be believed:
-- promises speak of it.
use Rattle.std.specs.Prelude.{ℕ, zero, suc, ◌≡◌, ◌+◌, ◌<◌, ◌⊎◌, ◌==◌, cond, max, Bool, List, [], ◌∷◌, ◌++◌, length}
use Rattle.std.specs.Prelude.{take, Option, Some, None}
use Rattle.std.specs.List.{remove}
use Rattle.reg_base.specs.declared.memory.Answer.{Answer}
use Rattle.reg_base.specs.declared.memory.Op.{Op}
use Rattle.reg_base.specs.Shape.{Extent}
use Rattle.reg_checkers.specs.declared.entries.Entry.{Entry}
use Rattle.reg_checkers.specs.declared.entries.Entry.TheVariants.{Called, Answered}
use Rattle.reg_commands.specs.Plays.{IsPlayBy}
use Rattle.reg_commands.specs.declared.faults.Fault.TheVariants.{Output, OutOfMemory}
use Rattle.reg_front.specs.declared.starts.Start.{Start}
use Rattle.reg_inputs.specs.Loads.{Load}
use Rattle.reg_inputs.specs.ScheduleText.{IsScheduleText, schedule_text}
use Rattle.reg_inputs.specs.Schedules.{Plan}
use Rattle.reg_process.specs.declared.events.Event.{Event}
use Rattle.reg_world.specs.World.{whole}
use Rattle.reg_world.specs.Worlds.{Made}
use Rattle.reg_show.specs.declared.faults.ShowFault.{ShowFault}
use Rattle.reg_show.specs.declared.faults.ShowFault.TheVariants.{Command, TooManyToShorten}
use Rattle.reg_show.specs.declared.short_schedules.TheConstants.{MOST_SHORTENED}
use Rattle.reg_show.specs.declared.shortening.Finished.{Finished}

-- the operation that a process called last, after one more entry
abbrev pub last_after : ℕ → Option Op → Entry → Option Op
last_after p last (Called at id op) = cond (id.process == p) (Some op) last
last_after p last (Answered at id answer) = last

-- the operation that was called last, with this answer
abbrev pub finished_with : Option Op → Answer → List Finished
finished_with None answer = []
finished_with (Some op) answer = record { op = op; answer = answer } ∷ []

-- the operation that a process finishes by an entry: the one that it called last
abbrev pub finished_by : ℕ → Option Op → Entry → List Finished
finished_by p last (Called at id op) = []
finished_by p last (Answered at id answer) = cond (id.process == p) (finished_with last answer) []

-- the operations that a process finishes in these entries
abbrev pub finished_from : ℕ → Option Op → List Entry → List Finished
finished_from p last [] = []
finished_from p last (e ∷ es) = finished_by p last e ++ finished_from p (last_after p last e) es

-- the finished operations of a process in a history, in order, each with its answer
abbrev pub finished_of : ℕ → List Entry → List Finished
finished_of p h = finished_from p None h

-- each of n processes finishes the same operations in both histories, each with the same answer
abbrev pub HaveSameAnswers : ℕ → List Entry → List Entry → Type 0
HaveSameAnswers n h others = (p : ℕ) → p < n → finished_of p h ≡ finished_of p others

-- All of these events are accepted, and in their run each process finishes the operations that it finishes in this
-- history, each with the same answer. Nothing is asked of operations without an answer.
pub record KeepsAnswers (start : Op → ℕ → Start) (shape : Extent) (h : List Entry) (events : List Event) : Type 0 where
  pub accepted : (whole start shape.processes shape.registers events).accepted ≡ events
  pub answers : HaveSameAnswers shape.processes (whole start shape.processes shape.registers events).history h

-- The event at place k was tried: it is gone exactly where the list without it has what is to be kept.
abbrev pub IsTried : (List Event → Type 0) → List Event → ℕ → List Event → Type 0
IsTried Keeps list k next =
    (Keeps (remove list k) × (next ≡ remove list k)) ⊎ ((¬ Keeps (remove list k)) × (next ≡ list))

-- The first k events of a list were tried, from the last of them to the first, each in what was left of the list.
abbrev pub Shortens : (List Event → Type 0) → ℕ → List Event → List Event → Type 0
Shortens Keeps zero list short = short ≡ list
Shortens Keeps (suc k) list short = (next : List Event) × IsTried Keeps list k next × Shortens Keeps k next short

-- how many events there are up to that of this entry, where it is an answer
abbrev pub up_to_answer : Entry → ℕ
up_to_answer (Called at id op) = 0
up_to_answer (Answered at id answer) = at + 1

-- how many there are up to the last answer
abbrev pub up_to_last_answer : List Entry → ℕ
up_to_last_answer [] = 0
up_to_last_answer (e ∷ es) = max (up_to_answer e) (up_to_last_answer es)

-- the events of a play up to its last answer
abbrev pub up_to_end : Made → List Event
up_to_end made = take (up_to_last_answer made.history) made.accepted

-- These are the events up to the last answer of a play, without each that no answer needs: from the last to the first,
-- an event is gone exactly where all answers are the same without it.
abbrev pub IsShort : (Op → ℕ → Start) → Extent → Made → List Event → Type 0
IsShort start shape made short =
    Shortens (KeepsAnswers start shape made.history) (length (up_to_end made)) (up_to_end made) short

-- The short form of the player's play of the workload. It is accepted, and gives the same answers.
pub record IsShortPlay (fair : Bool) (start : Op → ℕ → Start) (work : Load) (short : List Event) : Type 0 where
  pub made : Made
  pub is_finished : Bool
  pub played : IsPlayBy fair start work made is_finished
  pub is_short : IsShort start work.shape made short
  pub keeps : KeepsAnswers start work.shape made.history short

-- these events as a plan, under the workload's front end and names
abbrev pub plan_with : Load → List Event → Plan
plan_with work events = record { shape = work.shape; names = work.names; front = work.front; events = events }

-- The schedule of these events was written, under the workload's front end and names. `Wrote` says how a text was.
pub record SendsEvents (Wrote : List ℕ → Type 0) (work : Load) (events : List Event) : Type 0 where
  pub schedule : IsScheduleText (plan_with work events)
  pub written : Wrote (schedule_text (plan_with work events))

-- the schedule of the short form of the player's play of the workload was written
pub record ShowsShort (fair : Bool) (start : Op → ℕ → Start) (Wrote : List ℕ → Type 0) (work : Load) : Type 0 where
  pub short : List Event
  pub play : IsShortPlay fair start work short
  pub sent : SendsEvents Wrote work short

-- The player's play of the workload has more events up to its last answer than are shortened.
pub record IsLongPlay (fair : Bool) (start : Op → ℕ → Start) (work : Load) : Type 0 where
  pub made : Made
  pub is_finished : Bool
  pub played : IsPlayBy fair start work made is_finished
  pub many : MOST_SHORTENED < length (up_to_end made)

-- why a workload has no short play: memory was refused, or its play is too long
abbrev pub LacksShort : Bool → (Op → ℕ → Start) → Load → ShowFault → Type 0
LacksShort fair start work (Command fault) = fault ≡ OutOfMemory
LacksShort fair start work TooManyToShorten = IsLongPlay fair start work
LacksShort fair start work _ = ⊥

-- why no schedule of a short play is written
abbrev pub StopsShort : Bool → (Op → ℕ → Start) → Load → ShowFault → Type 0
StopsShort fair start work fault = (fault ≡ Command Output) ⊎ LacksShort fair start work fault
