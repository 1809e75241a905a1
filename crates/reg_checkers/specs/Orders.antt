-- Serial orders (Lamport 1979) and point orders (Herlihy and Wing 1990) of a history.
use Rattle.std.specs.Prelude.{ℕ, ◌≡◌, ◌<◌, ◌≤◌, ◌⊎◌, true, List, map, replicate, take}
use Rattle.std.specs.List.{AllZip}
use Rattle.reg_base.specs.declared.memory.OpId.{OpId}
use Rattle.reg_base.specs.declared.memory.Op.{Op}
use Rattle.reg_base.specs.declared.memory.Answer.{Answer}
use Rattle.reg_checkers.specs.declared.entries.Entry.{Entry}
use Rattle.reg_checkers.specs.declared.entries.Point.{Point}
use Rattle.reg_base.specs.Memory.{updates, answer_of, memory_after}
use Rattle.reg_checkers.specs.History.{IsAt, IsCalled, IsAnswered, IsFinished}

-- no id stands twice
abbrev pub IsDistinct : List OpId → Type 0
IsDistinct ids = (i j : ℕ) (id : OpId) → IsAt ids i id → IsAt ids j id → i ≡ j

-- Distinct ids, with every finished operation, and besides only unfinished updates that were called
-- (Herlihy and Wing 1990, section 2.3: some pending calls completed, the others dropped).
pub record IsSelection (h : List Entry) (ids : List OpId) : Type 0 where
  pub distinct : IsDistinct ids
  pub finished : (id : OpId) → IsFinished h id → (k : ℕ) × IsAt ids k id
  pub known : (k : ℕ) (id : OpId) → IsAt ids k id
      → IsFinished h id ⊎ ((at : ℕ) × (op : Op) × IsCalled h id at op × (updates op ≡ true))

-- The operations that were called under these ids: each of them that is finished has the answer of one memory, all 0 at
-- first, after those before it.
pub record IsLegal (registers : ℕ) (h : List Entry) (ids : List OpId) : Type 0 where
  pub ops : List Op
  pub called : AllZip (λ id op. (at : ℕ) × IsCalled h id at op) ids ops
  pub right : (k : ℕ) (id : OpId) (op : Op) (at : ℕ) (answer : Answer) → IsAt ids k id → IsAt ops k op
      → IsAnswered h id at answer → answer ≡ answer_of op (memory_after (take k ops) (replicate registers 0))

-- of two ids of one process, the one with the smaller number stands first
abbrev pub KeepsOwnOrder : List OpId → Type 0
KeepsOwnOrder ids =
    (i j : ℕ) (a b : OpId) → IsAt ids i a → IsAt ids j b → a.process ≡ b.process → a.number < b.number → i < j

-- A serial order (Lamport 1979: the result of any execution is the same as if the operations of all the
-- processes were executed in some sequential order, and the operations of each process appear in this order).
pub record IsSerial (registers : ℕ) (h : List Entry) (ids : List OpId) : Type 0 where
  pub selection : IsSelection h ids
  pub legal : IsLegal registers h ids
  pub own_order : KeepsOwnOrder ids

-- A point order: each operation takes effect at a moment, its point, that is not before its call and, where it is
-- finished, not after its answer, and no point is before one that stands ahead of it (Herlihy and Wing 1990, section
-- 2.3, linearizability).
pub record IsPointOrder (registers : ℕ) (h : List Entry) (ps : List Point) : Type 0 where
  pub selection : IsSelection h (map (λ p. p.id) ps)
  pub legal : IsLegal registers h (map (λ p. p.id) ps)
  pub called : (k : ℕ) (p : Point) (at : ℕ) (op : Op) → IsAt ps k p → IsCalled h p.id at op → at ≤ p.at
  pub answered : (k : ℕ) (p : Point) (at : ℕ) (answer : Answer) → IsAt ps k p → IsAnswered h p.id at answer → p.at ≤ at
  pub rising : (i j : ℕ) (p q : Point) → IsAt ps i p → IsAt ps j q → i < j → p.at ≤ q.at
