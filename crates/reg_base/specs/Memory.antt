-- One memory (the sequential specification of read and write registers, Herlihy and Wing 1990, section 2, with a swap
-- and a compare-and-swap, Herlihy 1991).
-- A further kind of operation changes `register_of`, `updates`, `tells`, `answer_of` and `after` alone.
use Rattle.std.specs.Prelude.{◌≡◌, replicate, ℕ, Bool, true, false, List, [], ◌∷◌, ◌==◌, slice_index, slice_set}
use Rattle.std.specs.Prelude.{if◌then◌else◌}
use Rattle.reg_base.specs.declared.memory.Op.{Op}
use Rattle.reg_base.specs.declared.memory.Op.TheVariants.{Read, Write, Swap, CompareAndSwap}
use Rattle.reg_base.specs.declared.memory.Answer.{Answer}
use Rattle.reg_base.specs.declared.memory.Answer.TheVariants.{Done, Value, Unequal}

-- the register that an operation names
abbrev pub register_of : Op → ℕ
register_of (Read r) = r
register_of (Write r v) = r
register_of (Swap r v) = r
register_of (CompareAndSwap r e v) = r

-- whether the operation may change the memory
abbrev pub updates : Op → Bool
updates (Read r) = false
updates op = true

-- whether the operation's answer tells of the memory
abbrev pub tells : Op → Bool
tells (Write r v) = false
tells op = true

-- a write answers Done; a read answers its register's value, and a swap its old value; a compare-and-swap answers Done
-- where its register holds the value that it expects, and else Unequal
abbrev pub answer_of : Op → List ℕ → Answer
answer_of (Write r v) m = Done
answer_of (CompareAndSwap r e v) m = if slice_index m r == e then Done else Unequal
answer_of op m = Value (slice_index m (register_of op))

-- a write or a swap replaces its register's value, and so does a compare-and-swap whose register holds the value that
-- it expects; else it changes nothing, as a read
abbrev pub after : Op → List ℕ → List ℕ
after (Read r) m = m
after (Write r v) m = slice_set m r v
after (Swap r v) m = slice_set m r v
after (CompareAndSwap r e v) m = if slice_index m r == e then slice_set m r v else m

-- the memory after these operations, the first of them first
abbrev pub memory_after : List Op → List ℕ → List ℕ
memory_after [] m = m
memory_after (op ∷ ops) m = memory_after ops (after op m)

-- The definitions that follow are shorthands: a serial order doesn't rest on them.

-- a memory: a value for each register
abbrev pub Memory : Type 0
Memory = List ℕ

-- the memory at first
abbrev pub blank : ℕ → Memory
blank registers = replicate registers 0

-- the memory after a list of operations, all 0 at first
abbrev pub memory : ℕ → List Op → Memory
memory registers ops = memory_after ops (replicate registers 0)

abbrev pub IsUpdate : Op → Type 0
IsUpdate op = updates op ≡ true

-- the operation has one answer on every memory
abbrev pub IsBlind : Op → Type 0
IsBlind op = (m n : Memory) → answer_of op m ≡ answer_of op n
