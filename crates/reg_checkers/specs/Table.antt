-- Tables of facts: a row for each process, and in it a fact for each number. They carry proofs, of crates above too: no
-- other promise speaks of them.
use Rattle.std.specs.Prelude.{ℕ, ◌≡◌, ◌≢◌, ◌⊎◌, ◌↔◌, true, List, slice_get, Option, Some, IsSome, option_and_then, Vec}
use Rattle.reg_base.specs.declared.memory.OpId.{OpId}
use Rattle.reg_checkers.specs.declared.facts.Fact.{Fact}
use Rattle.reg_checkers.specs.declared.entries.Entry.{Entry}
use Rattle.reg_checkers.specs.History.{IsAt, IsCalled, IsFinished, WasCalled}
use Rattle.std.specs.List.{AllZip}
use Rattle.reg_base.specs.declared.memory.Op.{Op}
use Rattle.reg_base.specs.Memory.{updates, IsUpdate}
use Rattle.reg_checkers.specs.Facts.{IsFactOf}

-- what a selection may hold: a finished operation, or a called one that may have changed the memory
abbrev pub MayStand : List Entry → OpId → Type 0
MayStand h id = IsFinished h id ⊎ ((at : ℕ) × (op : Op) × IsCalled h id at op × (updates op ≡ true))

abbrev pub Rows : Type 0 → Type 0
Rows A = List (Vec Fact A)

-- the fact of this operation
abbrev pub cell : {A : Type 0} → Rows A → OpId → Option Fact
cell rows id = option_and_then (λ row. slice_get row.items id.number) (slice_get rows id.process)

-- the fact of one operation is replaced, and no other
pub record IsChangedAt {A : Type 0} (old new : Rows A) (id : OpId) (f : Fact) : Type 0 where
  pub here : cell new id ≡ Some f
  pub others : (x : OpId) → x ≢ id → cell new x ≡ cell old x

-- the table has the facts of all operations that were called, and no others
pub record IsTable {A : Type 0} (h : List Entry) (rows : Rows A) : Type 0 where
  pub facts : (id : OpId) (f : Fact) → cell rows id ≡ Some f → IsFactOf h id f
  pub all : (id : OpId) → WasCalled h id → (f : Fact) × (cell rows id ≡ Some f)

-- the operation's fact says that it stands in the order
abbrev pub Marked : {A : Type 0} → Rows A → OpId → Type 0
Marked rows id = (f : Fact) × (cell rows id ≡ Some f) × (f.stands ≡ true)

-- exactly these are marked
abbrev pub AreMarked : {A : Type 0} → Rows A → List OpId → Type 0
AreMarked rows ids = (id : OpId) → Marked rows id ↔ ((k : ℕ) × IsAt ids k id)

-- one more operation is marked, and none is lost
pub record IsMarkedToo {A : Type 0} (old new : Rows A) (id : OpId) : Type 0 where
  pub before : ¬ Marked old id
  pub marks : (x : OpId) → Marked new x ↔ (Marked old x ⊎ (x ≡ id))
  pub known : (x : OpId) → IsSome (cell old x) → IsSome (cell new x)

-- by the table, the operation is finished or an update
abbrev pub Stands : {A : Type 0} → Rows A → OpId → Type 0
Stands rows id = (f : Fact) × (cell rows id ≡ Some f) × (IsSome f.answered ⊎ IsUpdate f.op)

-- the facts of these ids, each of which may stand in an order
pub record AreResolved {A : Type 0} (rows : Rows A) (ids : List OpId) (facts : List Fact) : Type 0 where
  pub each : AllZip (λ id f. cell rows id ≡ Some f) ids facts
  pub stand : (k : ℕ) (id : OpId) → IsAt ids k id → Stands rows id

-- no operation is marked
abbrev pub IsUnmarked : {A : Type 0} → Rows A → Type 0
IsUnmarked rows = (id : OpId) → ¬ Marked rows id
