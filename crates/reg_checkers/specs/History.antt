-- Histories of calls and answers (Herlihy and Wing 1990, section 2).
use Rattle.std.specs.Prelude.{ℕ, ◌≡◌, ◌<◌, ◌≤◌, ◌⊎◌, ◌↔◌, List, take, slice_get, Some}
use Rattle.reg_base.specs.declared.limits.TheConstants.{LAST_EVENT, MOST_OPERATIONS}
use Rattle.reg_base.specs.declared.memory.OpId.{OpId}
use Rattle.reg_base.specs.declared.memory.Op.{Op}
use Rattle.reg_base.specs.declared.memory.Answer.{Answer}
use Rattle.reg_checkers.specs.declared.entries.Entry.{Entry}
use Rattle.reg_checkers.specs.declared.entries.Entry.TheVariants.{Called, Answered}
use Rattle.reg_base.specs.Memory.{register_of, answer_of}

-- x stands in the list at place k
abbrev pub IsAt : {X : Type 0} → List X → ℕ → X → Type 0
IsAt xs k x = slice_get xs k ≡ Some x

-- the operation op was called under this id, at event at
abbrev pub IsCalled : List Entry → OpId → ℕ → Op → Type 0
IsCalled h id at op = (k : ℕ) × IsAt h k (Called at id op)

-- the operation of this id was answered so, at event at
abbrev pub IsAnswered : List Entry → OpId → ℕ → Answer → Type 0
IsAnswered h id at answer = (k : ℕ) × IsAt h k (Answered at id answer)

-- the operation of this id has an answer
abbrev pub IsFinished : List Entry → OpId → Type 0
IsFinished h id = (at : ℕ) × (answer : Answer) × IsAnswered h id at answer

-- When an entry may come next in a history

abbrev pub event_of : Entry → ℕ
event_of (Called at id op) = at
event_of (Answered at id answer) = at

abbrev pub WasCalled : List Entry → OpId → Type 0
WasCalled es id = (at : ℕ) × (op : Op) × IsCalled es id at op

-- the process has called exactly the numbers below this one
abbrev pub IsNext : List Entry → OpId → Type 0
IsNext es id = (n : ℕ) → (n < id.number) ↔ WasCalled es (record { process = id.process; number = n })

-- a call in place: at a later event than each entry before it, and each operation that the process has called is
-- finished
pub record MayCall (n registers : ℕ) (es : List Entry) (at : ℕ) (id : OpId) (op : Op) : Type 0 where
  pub event : at ≤ LAST_EVENT
  pub process : id.process < n
  pub register : register_of op < registers
  pub later : (k : ℕ) (e : Entry) → IsAt es k e → event_of e < at
  pub next : IsNext es id
  pub fits : id.number < MOST_OPERATIONS
  pub idle : (other : OpId) → other.process ≡ id.process → WasCalled es other → IsFinished es other

-- an answer in place: of a running operation, that some memory gives it, at a later event than each entry before it,
-- but for the operation's own call, which may be of the same event
pub record MayAnswer (es : List Entry) (at : ℕ) (id : OpId) (answer : Answer) : Type 0 where
  pub event : at ≤ LAST_EVENT
  pub called_at : ℕ
  pub op : Op
  pub called : IsCalled es id called_at op
  pub running : IsFinished es id → ⊥
  pub fits : (m : List ℕ) × (answer ≡ answer_of op m)
  pub later : (k : ℕ) (e : Entry) → IsAt es k e → (event_of e < at) ⊎ (e ≡ Called at id op)

-- the entry may come after these
abbrev pub IsInPlace : ℕ → ℕ → List Entry → Entry → Type 0
IsInPlace n registers es (Called at id op) = MayCall n registers es at id op
IsInPlace n registers es (Answered at id answer) = MayAnswer es at id answer

-- each entry is in place after those before it
abbrev pub IsHistory : ℕ → ℕ → List Entry → Type 0
IsHistory n registers es = (k : ℕ) (e : Entry) → IsAt es k e → IsInPlace n registers (take k es) e
