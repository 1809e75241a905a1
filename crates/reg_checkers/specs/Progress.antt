-- Marks beside a history, by which an entry is known to be in place. They carry a proof: no promise speaks of them.
use Rattle.std.specs.Prelude.{ℕ, ◌≡◌, ◌+◌, ◌-◌, ◌<◌, ◌↔◌, suc, List, length, slice_get, Option, Some, None, IfSome}
use Rattle.reg_base.specs.declared.memory.OpId.{OpId}
use Rattle.reg_checkers.specs.declared.entries.Entry.{Entry}
use Rattle.reg_checkers.specs.declared.entries.Entry.TheVariants.{Called, Answered}
use Rattle.reg_base.specs.declared.limits.TheConstants.{MOST_OPERATIONS}
use Rattle.reg_checkers.specs.History.{IsAt, IsCalled, IsFinished, WasCalled, IsHistory, event_of}
use Rattle.reg_checkers.specs.declared.place.Progress.{Progress}
use Rattle.reg_checkers.specs.declared.place.Running.{Running}

-- the last entry, if there is one
abbrev pub last_of : List Entry → Option Entry
last_of es = slice_get es (length es - 1)

-- the event comes after that of the last entry
abbrev pub IsBehindLast : List Entry → ℕ → Type 0
IsBehindLast es at = IfSome (last_of es) (λ e. event_of e < at)

abbrev pub op_of : ℕ → ℕ → OpId
op_of p n = record { process = p; number = n }

-- each operation that the process has called is finished
abbrev pub IsIdle : List Entry → ℕ → Type 0
IsIdle es process = (id : OpId) → id.process ≡ process → WasCalled es id → IsFinished es id

-- the process runs nothing; or it runs its last operation, and has finished those before
abbrev pub IsState : List Entry → ℕ → ℕ → Option Running → Type 0
IsState es p next None = IsIdle es p
IsState es p next (Some run) =
    (n : ℕ) × (next ≡ suc n) × IsCalled es (op_of p n) run.at run.op × (¬ IsFinished es (op_of p n))
    × ((m : ℕ) → m < n → IsFinished es (op_of p m))

pub record IsProgressOf (es : List Entry) (p : ℕ) (g : Progress) : Type 0 where
  pub calls : (n : ℕ) → (n < g.next) ↔ WasCalled es (op_of p n)
  pub state : IsState es p g.next g.running

-- a history, and how far each process is
pub record IsKept (count registers : ℕ) (es : List Entry) (ps : List Progress) : Type 0 where
  pub history : IsHistory count registers es
  pub kept_each : length ps ≡ count
  pub each : (p : ℕ) (g : Progress) → IsAt ps p g → IsProgressOf es p g

-- the operation that an entry speaks of
abbrev pub id_of : Entry → OpId
id_of (Called at id op) = id
id_of (Answered at id answer) = id

-- the number of a call has a next one
abbrev pub IsNumbered : Entry → Type 0
IsNumbered (Called at id op) = id.number < MOST_OPERATIONS
IsNumbered (Answered at id answer) = Unit {0}

-- how far a process is after one more of its entries
abbrev pub progress_after : Progress → Entry → Progress
progress_after before (Called at id op) = record { next = id.number + 1; running = Some (record { at = at; op = op }) }
progress_after before (Answered at id answer) = record { next = before.next; running = None }
