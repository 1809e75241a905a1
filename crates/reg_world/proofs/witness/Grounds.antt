-- What the orders of a run rest on: by what its replies tell, and in the form that the walk uses.
use Rattle.std.specs.Prelude.{ℕ, ◌≡◌, ◌≢◌, ◌<◌, ◌≤◌, ◌⊎◌, length}
use Rattle.reg_base.specs.declared.memory.OpId.{OpId}
use Rattle.reg_base.specs.declared.memory.Op.{Op}
use Rattle.reg_base.specs.declared.memory.Answer.{Answer}
use Rattle.reg_world.specs.declared.order.First.{First}
use Rattle.reg_world.specs.declared.order.CopyRead.{CopyRead}
use Rattle.reg_base.specs.Memory.{Memory, IsUpdate, answer_of, IsBlind}
use Rattle.reg_base.specs.Order.{Below}
use Rattle.reg_checkers.specs.History.{IsAt, IsCalled, IsAnswered, IsFinished}
use Rattle.reg_world.specs.Runs.{Run, Cast, IsWaiting, memory_of}

-- How a reply came, with its place: at the delivery of the operation's own cast, which is the cast at that place;
-- at once with the cast, as only a write does; or from a copy, as only a read does. So a swap's comes at its delivery.
pub data Came (r : Run) (id : OpId) (op : Op) (place : ℕ) : Type 0 where
  AtDelivery : (c : First) → IsAt r.order place c → c.id ≡ id → Came r id op place
  AtOnce : (d : Cast) → ((k : ℕ) × IsAt r.casts k d) → d.id ≡ id → IsBlind op → Came r id op place
  FromCopy : ((k : ℕ) × IsAt r.reads k (record { id = id; place = place })) → ¬ IsUpdate op → Came r id op place

-- what the rules of one process give of a read that was answered from a copy
pub record IsCopyRead (r : Run) (q : CopyRead) : Type 0 where
  pub finished : IsFinished r.history q.id
  pub within : q.place ≤ length r.order
  pub no_cast : (d : Cast) → ((k : ℕ) × IsAt r.casts k d) → d.id ≢ q.id
  pub earlier : (d : Cast) → ((k : ℕ) × IsAt r.casts k d) → d.id.process ≡ q.id.process → d.id.number < q.id.number
      → (k : ℕ) × (c : First) × IsAt r.order k c × (c.id ≡ d.id) × (k < q.place)
  pub later : (k : ℕ) (c : First) → IsAt r.order k c → c.id.process ≡ q.id.process → q.id.number < c.id.number
      → q.place ≤ k

pub record IsOrdered (r : Run) : Type 0 where
  pub rising : (i j : ℕ) (a b : First) → IsAt r.order i a → IsAt r.order j b → i < j → Below a.stamp b.stamp
  pub delivered : (k : ℕ) (c : First) → IsAt r.order k c
      → (k : ℕ) × IsAt r.casts k (record { stamp = c.stamp; id = c.id; op = c.op })
  pub waiting : (d : Cast) → ((k : ℕ) × IsAt r.casts k d) → IsWaiting r d.id → (k : ℕ) (c : First) → IsAt r.order k c
      → Below c.stamp d.stamp
  pub one_cast : (d e : Cast) → ((k : ℕ) × IsAt r.casts k d) → ((k : ℕ) × IsAt r.casts k e) → d.id ≡ e.id → d ≡ e
  pub own_casts : (d e : Cast) → ((k : ℕ) × IsAt r.casts k d) → ((k : ℕ) × IsAt r.casts k e)
      → d.id.process ≡ e.id.process → d.id.number < e.id.number → Below d.stamp e.stamp
  pub called : (d : Cast) → ((k : ℕ) × IsAt r.casts k d) → (at : ℕ) × IsCalled r.history d.id at d.op
  pub copies : (q : CopyRead) → ((k : ℕ) × IsAt r.reads k q) → IsCopyRead r q
  pub places : (p q : CopyRead) → ((k : ℕ) × IsAt r.reads k p) → ((k : ℕ) × IsAt r.reads k q)
      → p.id.process ≡ q.id.process → p.id.number ≤ q.id.number → p.place ≤ q.place
  -- each answer is that of the memory after the casts before its place
  pub replied : (id : OpId) (s t : ℕ) (op : Op) (answer : Answer) → IsCalled r.history id s op
      → IsAnswered r.history id t answer
      → (place : ℕ) × Came r id op place × (answer ≡ answer_of op (memory_of r place))

-- what is known of a read that was answered from a copy
pub record IsCopied (r : Run) (q : CopyRead) : Type 0 where
  pub called_at : ℕ
  pub op : Op
  pub called : IsCalled r.history q.id called_at op
  pub reads : IsUpdate op → ⊥
  pub finished : IsFinished r.history q.id
  pub answer : (at : ℕ) (answer : Answer) → IsAnswered r.history q.id at answer
      → answer ≡ answer_of op (memory_of r q.place)
  pub within : q.place ≤ length r.order
  pub no_cast : (d : Cast) → ((k : ℕ) × IsAt r.casts k d) → d.id ≢ q.id
  -- the process's earlier casts were delivered before it, and its later ones after it
  pub earlier : (d : Cast) → ((k : ℕ) × IsAt r.casts k d) → d.id.process ≡ q.id.process → d.id.number < q.id.number
      → (k : ℕ) × (c : First) × IsAt r.order k c × (c.id ≡ d.id) × (k < q.place)
  pub later : (k : ℕ) (c : First) → IsAt r.order k c → c.id.process ≡ q.id.process → q.id.number < c.id.number
      → q.place ≤ k

-- what one order and the rules of one process give of a run
pub record IsRun (r : Run) : Type 0 where
  pub rising : (i j : ℕ) (a b : First) → IsAt r.order i a → IsAt r.order j b → i < j → Below a.stamp b.stamp
  pub delivered : (k : ℕ) (c : First) → IsAt r.order k c
      → (k : ℕ) × IsAt r.casts k (record { stamp = c.stamp; id = c.id; op = c.op })
  pub waiting : (d : Cast) → ((k : ℕ) × IsAt r.casts k d) → IsWaiting r d.id → (k : ℕ) (c : First) → IsAt r.order k c
      → Below c.stamp d.stamp
  pub one_cast : (d e : Cast) → ((k : ℕ) × IsAt r.casts k d) → ((k : ℕ) × IsAt r.casts k e) → d.id ≡ e.id → d ≡ e
  pub own_casts : (d e : Cast) → ((k : ℕ) × IsAt r.casts k d) → ((k : ℕ) × IsAt r.casts k e)
      → d.id.process ≡ e.id.process → d.id.number < e.id.number → Below d.stamp e.stamp
  pub called : (d : Cast) → ((k : ℕ) × IsAt r.casts k d) → (at : ℕ) × IsCalled r.history d.id at d.op
  pub copied : (q : CopyRead) → ((k : ℕ) × IsAt r.reads k q) → IsCopied r q
  pub places : (p q : CopyRead) → ((k : ℕ) × IsAt r.reads k p) → ((k : ℕ) × IsAt r.reads k q)
      → p.id.process ≡ q.id.process → p.id.number ≤ q.id.number → p.place ≤ q.place
  pub finished : (id : OpId) → IsFinished r.history id
      → ((d : Cast) × ((k : ℕ) × IsAt r.casts k d) × (d.id ≡ id))
      ⊎ ((q : CopyRead) × ((k : ℕ) × IsAt r.reads k q) × (q.id ≡ id))
  -- an answer is that of the memory after the casts that stand before its own
  pub answer : (k : ℕ) (c : First) (at : ℕ) (answer : Answer) → IsAt r.order k c → IsAnswered r.history c.id at answer
      → answer ≡ answer_of c.op (memory_of r k)
  -- an answer that was given before any delivery is that of every memory
  pub blind : (d : Cast) (at : ℕ) (answer : Answer) → ((k : ℕ) × IsAt r.casts k d) → IsWaiting r d.id
      → IsAnswered r.history d.id at answer → (m : Memory) → answer ≡ answer_of d.op m

-- what holds besides where every operation is cast
pub record IsRealTime (r : Run) : Type 0 where
  pub all_delivered : (id : OpId) → IsFinished r.history id → (k : ℕ) × (c : First) × IsAt r.order k c × (c.id ≡ id)
  pub after_call : (k : ℕ) (c : First) (at : ℕ) (op : Op) → IsAt r.order k c → IsCalled r.history c.id at op → at ≤ c.at
  pub before_answer : (k : ℕ) (c : First) (at : ℕ) (answer : Answer) → IsAt r.order k c
      → IsAnswered r.history c.id at answer → c.at ≤ at
  pub never_falls : (i j : ℕ) (a b : First) → IsAt r.order i a → IsAt r.order j b → i < j → a.at ≤ b.at
