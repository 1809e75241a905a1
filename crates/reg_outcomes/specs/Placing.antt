-- A search for an order under way: the operations that may come next. They carry a proof: no promise speaks of them.
use Rattle.std.specs.Prelude.{ℕ, ◌≡◌, ◌<◌, ◌≤◌, List, length, map, slice_index}
use Rattle.reg_base.specs.declared.memory.Answer.{Answer}
use Rattle.reg_base.specs.declared.memory.Op.{Op}
use Rattle.reg_base.specs.declared.memory.OpId.{OpId}
use Rattle.reg_base.specs.Memory.{answer_of}
use Rattle.reg_checkers.specs.declared.entries.Entry.{Entry}
use Rattle.reg_checkers.specs.declared.entries.Point.{Point}
use Rattle.reg_checkers.specs.History.{IsAnswered, IsAt, IsCalled, IsFinished}
use Rattle.reg_checkers.specs.Orders.{IsSerial}
use Rattle.reg_checkers.specs.Progress.{op_of}
use Rattle.reg_outcomes.specs.declared.orders.kinds.OrderKind.{OrderKind}
use Rattle.reg_outcomes.specs.declared.orders.kinds.OrderKind.TheVariants.{Serial, Points}
use Rattle.reg_outcomes.specs.Finding.{MayCome, MayFollow, placed_after}
use Rattle.reg_outcomes.specs.Interleavings.{Stage}

-- the next operation of a process may come, and leads from one stage to another
pub record IsPlaced (kind : OrderKind) (h : List Entry) (p : ℕ) (from to : Stage) : Type 0 where
  pub op : Op
  pub at : ℕ
  pub called : IsCalled h (op_of p (slice_index from.next p)) at op
  pub comes : MayCome h (op_of p (slice_index from.next p)) op (answer_of op from.memory)
  pub follows : MayFollow kind h from.next (op_of p (slice_index from.next p))
  pub stage : to ≡ placed_after p op from

-- all finished operations are placed
abbrev pub IsComplete : List Entry → List ℕ → Type 0
IsComplete h next = (id : OpId) → IsFinished h id → id.number < slice_index next id.process

-- a number for each process, and a value for each register
pub record HasRoomFor (n registers : ℕ) (s : Stage) : Type 0 where
  pub next : length s.next ≡ n
  pub memory : length s.memory ≡ registers

-- each operation that was answered before another's call stands before it
abbrev pub KeepsRealTime : List Entry → List OpId → Type 0
KeepsRealTime h ids =
    (i : ℕ) (id other : OpId) (at answered : ℕ) (op : Op) (answer : Answer) → IsAt ids i id → IsCalled h id at op
    → IsAnswered h other answered answer → answered < at → (j : ℕ) × (j < i) × IsAt ids j other

-- what a kind of order asks of the real time
abbrev pub KeepsTime : OrderKind → List Entry → List OpId → Type 0
KeepsTime Serial h ids = Unit {0}
KeepsTime Points h ids = KeepsRealTime h ids

-- a serial order, that keeps the real time where the kind asks for it
pub record IsOrder (kind : OrderKind) (registers : ℕ) (h : List Entry) (ids : List OpId) : Type 0 where
  pub serial : IsSerial registers h ids
  pub time : KeepsTime kind h ids

-- The points of these operations: each is the latest of their calls so far.
pub record ArePointsOf (h : List Entry) (ids : List OpId) (ps : List Point) : Type 0 where
  pub same : map (λ p. p.id) ps ≡ ids
  pub late : (i : ℕ) (p : Point) (at : ℕ) (op : Op) → IsAt ps i p → IsCalled h p.id at op → at ≤ p.at
  pub call : (i : ℕ) (p : Point) → IsAt ps i p
      → (j : ℕ) × (id : OpId) × (op : Op) × (j ≤ i) × IsAt ids j id × IsCalled h id p.at op
  pub rising : (i j : ℕ) (p q : Point) → IsAt ps i p → IsAt ps j q → i < j → p.at ≤ q.at
