-- Values of registers that are needed still, and that no operation makes any more. They carry a proof: no promise
-- speaks of them.
use Rattle.std.specs.Prelude.{ℕ, ◌≡◌, ◌≢◌, ◌<◌, ◌≤◌, List, Option, Some, None, slice_index}
use Rattle.std.specs.BTreeMap.{BTreeMap, get}
use Rattle.std.specs.declared.cmp.Ordering.{Ordering}
use Rattle.std.specs.Ordering.{nat_cmp, ordering_then}
use Rattle.reg_base.specs.declared.memory.Answer.{Answer}
use Rattle.reg_base.specs.declared.memory.Op.{Op}
use Rattle.reg_base.specs.declared.memory.Op.TheVariants.{Read, Write, Swap, CompareAndSwap}
use Rattle.reg_base.specs.Memory.{Memory, answer_of, register_of}
use Rattle.reg_checkers.specs.declared.entries.Entry.{Entry}
use Rattle.reg_checkers.specs.declared.entries.Entry.TheVariants.{Answered, Called}
use Rattle.reg_checkers.specs.History.{IsAnswered, IsAt, IsCalled}
use Rattle.reg_checkers.specs.Progress.{op_of}
use Rattle.reg_outcomes.specs.declared.orders.uses.Uses.{Uses}
use Rattle.reg_outcomes.specs.Interleavings.{Stage}

-- a register and a value, of a process
abbrev pub Key : Type 0
Key = ℕ × (ℕ × ℕ)

abbrev pub value_cmp : ℕ × ℕ → ℕ × ℕ → Ordering
value_cmp a b = ordering_then (nat_cmp a.0 b.0) (nat_cmp a.1 b.1)

abbrev pub use_cmp : Key → Key → Ordering
use_cmp a b = ordering_then (nat_cmp a.0 b.0) (value_cmp a.1 b.1)

abbrev pub Lasts : Type 0
Lasts = BTreeMap Key ℕ

-- the value that an operation may leave
abbrev pub made_of : Op → Option ℕ
made_of (Read r) = None
made_of (Write r v) = Some v
made_of (Swap r v) = Some v
made_of (CompareAndSwap r e v) = Some v

-- the operation has this answer only where the register has this value
abbrev pub Asks : Op → Answer → ℕ → ℕ → Type 0
Asks op answer r u = (m : Memory) → answer_of op m ≡ answer → slice_index m r ≡ u

-- a number is told of that is not smaller
abbrev pub IsAtLeast : Lasts → Key → ℕ → Type 0
IsAtLeast lasts q number = (last : ℕ) × (get use_cmp lasts q ≡ Some last) × (number ≤ last)

-- the value that the operation of a call may leave is told of
abbrev pub IsMakerNoted : Lasts → Entry → Type 0
IsMakerNoted lasts (Called at id op) =
    (v : ℕ) → made_of op ≡ Some v → IsAtLeast lasts (id.process, (register_of op, v)) id.number
IsMakerNoted lasts (Answered at id answer) = Unit {0}

-- so of the first entries
abbrev pub AreMakersTo : ℕ → List Entry → Lasts → Type 0
AreMakersTo n h makers = (j : ℕ) (e : Entry) → j < n → IsAt h j e → IsMakerNoted makers e

-- the operation of this number is finished, and has to find the value
abbrev pub IsAsker : List Entry → Key → ℕ → Type 0
IsAsker h q number =
    (op : Op) × (at : ℕ) × (given : Answer) × (answered : ℕ) × IsCalled h (op_of q.0 number) at op
    × IsAnswered h (op_of q.0 number) answered given × Asks op given q.1.0 q.1.1

abbrev pub AreAskers : List Entry → Lasts → Type 0
AreAskers h askers = (q : Key) (number : ℕ) → get use_cmp askers q ≡ Some number → IsAsker h q number

-- what is told of the values of a history
pub record AreUses {A : Type 0} (h : List Entry) (uses : Uses A) : Type 0 where
  pub makers : (j : ℕ) (e : Entry) → IsAt h j e → IsMakerNoted uses.makers e
  pub askers : AreAskers h uses.askers

-- some process has such an operation that is not placed
abbrev pub HasLater : Lasts → List ℕ → ℕ × ℕ → Type 0
HasLater lasts next value = (p last : ℕ) × (get use_cmp lasts (p, value) ≡ Some last) × (slice_index next p ≤ last)

-- none of the first processes has one
abbrev pub HasNoLater : Lasts → List ℕ → ℕ → ℕ × ℕ → Type 0
HasNoLater lasts next n value =
    (p last : ℕ) → p < n → get use_cmp lasts (p, value) ≡ Some last → last < slice_index next p

-- the value is needed still, and no operation makes it any more
pub record IsLost {A : Type 0} (uses : Uses A) (s : Stage) (n : ℕ) (value : ℕ × ℕ) : Type 0 where
  pub gone : slice_index s.memory value.0 ≢ value.1
  pub needed : HasLater uses.askers s.next value
  pub last : HasNoLater uses.makers s.next n value
