-- What has to come before what in each serial order of a history. They carry a proof: no promise speaks of them.
use Rattle.std.specs.Prelude.{ℕ, ◌≡◌, ◌≢◌, ◌<◌, ◌+◌, ◌*◌, ◌⊎◌, List, length, slice_get, slice_index, Option, Some}
use Rattle.std.specs.Prelude.{option_and_then, Vec}
use Rattle.std.specs.BTreeMap.{BTreeMap, get}
use Rattle.reg_base.specs.declared.memory.Answer.{Answer}
use Rattle.reg_base.specs.declared.memory.Op.{Op}
use Rattle.reg_base.specs.declared.memory.OpId.{OpId}
use Rattle.reg_base.specs.Memory.{Memory, after, answer_of, register_of}
use Rattle.reg_checkers.specs.declared.entries.Entry.{Entry}
use Rattle.reg_checkers.specs.declared.entries.Entry.TheVariants.{Answered, Called}
use Rattle.reg_checkers.specs.History.{IsAnswered, IsAt, IsCalled}
use Rattle.reg_checkers.specs.Orders.{IsSerial}
use Rattle.reg_checkers.specs.Progress.{op_of}
use Rattle.reg_outcomes.specs.declared.orders.before.Before.{Before}
use Rattle.reg_outcomes.specs.declared.orders.sources.Maker.{Maker}
use Rattle.reg_outcomes.specs.declared.orders.sources.Maker.TheVariants.{Only, Several}
use Rattle.reg_outcomes.specs.declared.orders.sources.Reader.{Reader}
use Rattle.reg_outcomes.specs.Losing.{IsAsker, made_of, value_cmp}
use Rattle.reg_outcomes.specs.Sought.{Sought}

-- in each serial order in which both stand, the first one stands before the other
abbrev pub Comes : Sought → OpId → OpId → Type 0
Comes s a b =
    (ids : List OpId) (i j : ℕ) → IsSerial s.shape.registers s.entries ids → IsAt ids i a → IsAt ids j b → i < j

-- by process: of each of its operations in turn, and of each process, how many of its first operations come before
abbrev pub Counts : Type 0 → Type 0
Counts A = List (Vec ℕ A)

abbrev pub word_at : {A : Type 0} → ℕ → Vec ℕ A → Option ℕ
word_at place row = slice_get row.items place

-- the count at a place among those of a process
abbrev pub count_at : {A : Type 0} → ℕ → ℕ → Counts A → Option ℕ
count_at place process counts = option_and_then (word_at place) (slice_get counts process)

-- the count of the process at the operation
abbrev pub count_in : {A : Type 0} → Before A → OpId → ℕ → Option ℕ
count_in before id p = count_at (id.number * before.processes + p) id.process before.counts.items

-- how many first operations of the process come before the operation
abbrev pub IsCount : {A : Type 0} → Before A → OpId → ℕ → ℕ → Type 0
IsCount before id p k = (p < before.processes) × (count_in before id p ≡ Some k)

-- each count is one of these, or as it was
abbrev pub AreRaised : List ℕ → List ℕ → List ℕ → Type 0
AreRaised others old new =
    (p k : ℕ) → slice_get new p ≡ Some k → (slice_get old p ≡ Some k) ⊎ (slice_get others p ≡ Some k)

-- nothing comes before any operation
abbrev pub IsNoneRow : {A : Type 0} → Vec ℕ A → Type 0
IsNoneRow row = (place k : ℕ) → word_at place row ≡ Some k → k ≡ 0

abbrev pub AreNone : {A : Type 0} → Counts A → Type 0
AreNone counts = (process place k : ℕ) → count_at place process counts ≡ Some k → k ≡ 0

-- what is told to come before an operation does
abbrev pub AreForced : {A : Type 0} → Sought → Before A → Type 0
AreForced s before = (id : OpId) (p m k : ℕ) → IsCount before id p k → m < k → Comes s (op_of p m) id

-- the operation may leave this value in this register
abbrev pub IsMaker : List Entry → ℕ × ℕ → OpId → Type 0
IsMaker h value id =
    (at : ℕ) × (op : Op) × IsCalled h id at op × (register_of op ≡ value.0) × (made_of op ≡ Some value.1)

-- no other operation may
abbrev pub IsOnlyMaker : List Entry → ℕ × ℕ → OpId → Type 0
IsOnlyMaker h value w = (id : OpId) → IsMaker h value id → id ≡ w

-- the operation is among these
abbrev pub Covers : Maker → OpId → Type 0
Covers (Only w) id = id ≡ w
Covers Several id = Unit {0}

abbrev pub Makers : Type 0
Makers = BTreeMap (ℕ × ℕ) Maker

-- the operation is told of
abbrev pub HasMaker : Makers → ℕ × ℕ → OpId → Type 0
HasMaker makers value id = (m : Maker) × (get value_cmp makers value ≡ Some m) × Covers m id

-- the value that the operation of a call may leave is told of
abbrev pub IsMakerCalled : Makers → Entry → Type 0
IsMakerCalled makers (Called at id op) = (v : ℕ) → made_of op ≡ Some v → HasMaker makers (register_of op, v) id
IsMakerCalled makers (Answered at id answer) = Unit {0}

-- so of the first entries
abbrev pub AreCalledTo : ℕ → List Entry → Makers → Type 0
AreCalledTo n h makers = (j : ℕ) (e : Entry) → j < n → IsAt h j e → IsMakerCalled makers e

abbrev pub AreMakers : List Entry → Makers → Type 0
AreMakers h makers = (value : ℕ × ℕ) (id : OpId) → IsMaker h value id → HasMaker makers value id

-- an operation that is finished, what it has to find, and all that may leave that
pub record IsReader (h : List Entry) (r : Reader) : Type 0 where
  pub asker : IsAsker h (r.id.process, r.value) r.id.number
  pub source : (id : OpId) → IsMaker h r.value id → (m : Maker) × (r.source ≡ Some m) × Covers m id

-- where it stands in an order, the operation leaves another value in this register
pub record Overwrites (h : List Entry) (id : OpId) (value : ℕ × ℕ) : Type 0 where
  pub at : ℕ
  pub op : Op
  pub called : IsCalled h id at op
  pub register : register_of op ≡ value.0
  pub leaves : (m : Memory) → register_of op < length m
      → ((t : ℕ) (answer : Answer) → IsAnswered h id t answer → answer ≡ answer_of op m)
      → slice_index (after op m) (register_of op) ≢ value.1
