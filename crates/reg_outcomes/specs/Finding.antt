-- Operations of a history, placed one after another in search of a serial order or of a point order. To be believed:
-- promises speak of it.
use Rattle.std.specs.Prelude.{ℕ, ◌≡◌, ◌+◌, ◌<◌, ◌⊎◌, true, List, [], ◌∷◌, ◌++◌, length, slice_index, slice_set}
use Rattle.reg_base.specs.declared.memory.Answer.{Answer}
use Rattle.reg_base.specs.declared.memory.Op.{Op}
use Rattle.reg_base.specs.declared.memory.OpId.{OpId}
use Rattle.reg_base.specs.Memory.{after, answer_of, updates}
use Rattle.reg_checkers.specs.declared.entries.Entry.{Entry}
use Rattle.reg_checkers.specs.History.{IsAt, IsAnswered, IsCalled, IsFinished}
use Rattle.reg_outcomes.specs.declared.faults.InterleavingFault.{InterleavingFault}
use Rattle.reg_outcomes.specs.declared.faults.InterleavingFault.TheVariants.{TooManyStages, OutOfMemory}
use Rattle.reg_outcomes.specs.declared.orders.kinds.OrderKind.{OrderKind}
use Rattle.reg_outcomes.specs.declared.orders.kinds.OrderKind.TheVariants.{Serial, Points}
use Rattle.reg_outcomes.specs.Interleavings.{Stage, first_stage}

-- The operation may come where the memory gives it this answer: it was answered no other, and it is finished, or may
-- change the memory.
abbrev pub MayCome : List Entry → OpId → Op → Answer → Type 0
MayCome h id op answer =
    ((at : ℕ) (given : Answer) → IsAnswered h id at given → given ≡ answer) × (IsFinished h id ⊎ (updates op ≡ true))

-- all operations that were answered before this event are placed once these numbers of operations are, by process
abbrev pub ArePlacedBefore : List Entry → List ℕ → ℕ → Type 0
ArePlacedBefore h next at =
    (id : OpId) (answered : ℕ) (answer : Answer) → IsAnswered h id answered answer → answered < at
    → id.number < slice_index next id.process

-- What is asked besides of the operation that is placed next, once these numbers of operations are placed, by process:
-- nothing for a serial order, and for a point order that all operations that were answered before its call are placed
-- (Wing and Gong 1993).
abbrev pub MayFollow : OrderKind → List Entry → List ℕ → OpId → Type 0
MayFollow Serial h next id = Unit {0}
MayFollow Points h next id = (at : ℕ) (op : Op) → IsCalled h id at op → ArePlacedBefore h next at

-- The next operation of the process, which is this one, is placed. What it tells is not kept, since the history has it.
abbrev pub placed_after : ℕ → Op → Stage → Stage
placed_after p op s =
    record { next = slice_set s.next p (slice_index s.next p + 1); memory = after op s.memory; told = [] }

-- Operations placed one after another, in the own order of each process and where each may come and may follow, lead to
-- this stage.
pub data Places (kind : OrderKind) (n registers : ℕ) (h : List Entry) : List OpId → Stage → Type 0 where
  Nothing : Places kind n registers h [] (first_stage n registers)
  Next : {ids : List OpId} {s : Stage} (id : OpId) (op : Op) (at : ℕ) → Places kind n registers h ids s
      → id.number ≡ slice_index s.next id.process → IsCalled h id at op → MayCome h id op (answer_of op s.memory)
      → MayFollow kind h s.next id → Places kind n registers h (ids ++ id ∷ []) (placed_after id.process op s)

-- Some number of operations placed leads to more stages than the limit.
pub record IsWiderSearch (kind : OrderKind) (n registers : ℕ) (h : List Entry) (limit : ℕ) : Type 0 where
  pub placed : ℕ
  pub stages : List Stage
  pub more : limit < length stages
  pub once : (i j : ℕ) (s : Stage) → IsAt stages i s → IsAt stages j s → i ≡ j
  pub led : (k : ℕ) (s : Stage) → IsAt stages k s
      → (ids : List OpId) × Places kind n registers h ids s × (length ids ≡ placed)

-- why no order of this kind is looked for to the end
abbrev pub IsFindFault : OrderKind → ℕ → ℕ → List Entry → ℕ → InterleavingFault → Type 0
IsFindFault kind n registers h limit TooManyStages = IsWiderSearch kind n registers h limit
IsFindFault kind n registers h limit OutOfMemory = Unit {0}

-- why no serial order is looked for to the end
abbrev pub IsSearchFault : ℕ → ℕ → List Entry → ℕ → InterleavingFault → Type 0
IsSearchFault n registers h limit fault = IsFindFault Serial n registers h limit fault
