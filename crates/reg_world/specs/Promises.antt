-- What holds of the world of every run.
use Rattle.std.specs.Prelude.{◌≡◌, ℕ, ◌<◌, ◌≤◌, ◌+◌, ◌⊎◌, length, map, take}
use Rattle.reg_base.specs.declared.memory.Op.{Op}
use Rattle.reg_base.specs.declared.memory.OpId.{OpId}
use Rattle.reg_base.specs.declared.memory.Answer.{Answer}
use Rattle.reg_base.specs.declared.stamps.Delivered.{Delivered}
use Rattle.reg_base.specs.Memory.{answer_of}
use Rattle.reg_base.specs.Order.{Below, In, IsPrefixOf}
use Rattle.reg_process.specs.Process.{unsettled}
use Rattle.reg_front.specs.declared.starts.Start.{Start}
use Rattle.reg_front.specs.declared.starts.Start.TheVariants.{CastAndAnswer as CastsAndAnswers}
use Rattle.reg_checkers.specs.History.{IsAt, IsCalled, IsAnswered}
use Rattle.reg_world.specs.declared.order.First.{First}
use Rattle.reg_world.specs.declared.order.CopyRead.{CopyRead}
use Rattle.reg_world.specs.Runs.{Cast, memory_of}
use Rattle.reg_world.specs.Laws.{IsMade}
use Rattle.reg_world.specs.World.{World, Replied, delivered_of, run_of, whole}

-- The casts in the order of their first deliveries are the longest list of deliveries: each list of deliveries is a
-- prefix of it, and one is it.
pub record OrderIsLongest (n : ℕ) (w : World) : Type 0 where
  pub each : (p : ℕ) → p < n → IsPrefixOf (w.nodes p).deliveries (map delivered_of w.order)
  pub one : 0 < n → (p : ℕ) × (p < n) × ((w.nodes p).deliveries ≡ map delivered_of w.order)

-- The order rises strictly, so each cast stands in it once; exactly the casts delivered anywhere stand in it, each
-- with the operation that was called under its id.
pub record OrderIsRight (n : ℕ) (w : World) : Type 0 where
  pub rising : (i j : ℕ) (a b : First) → IsAt w.order i a → IsAt w.order j b → i < j → Below a.stamp b.stamp
  pub some : (k : ℕ) (f : First) → IsAt w.order k f → (q : ℕ) × (q < n) × In (delivered_of f) (w.nodes q).deliveries
  pub all : (q : ℕ) (c : Delivered) → q < n → In c (w.nodes q).deliveries
      → (k : ℕ) × (f : First) × IsAt w.order k f × (delivered_of f ≡ c)
  pub called : (k : ℕ) (f : First) → IsAt w.order k f → (at : ℕ) × IsCalled w.history f.id at f.op
  pub made : (k : ℕ) (f : First) → IsAt w.order k f
      → (k : ℕ) × IsAt w.casts k (record { stamp = f.stamp; id = f.id; op = f.op })

-- Each cast is first delivered by the event of its number: nobody has it before, and some process has it then.
pub record FirstsRight (start : Op → ℕ → Start) (n registers : ℕ) (w : World) : Type 0 where
  pub before : (k : ℕ) (f : First) (q : ℕ) → IsAt w.order k f → q < n
      → In (delivered_of f) ((whole start n registers (take f.at w.accepted)).nodes q).deliveries → ⊥
  pub then_there : (k : ℕ) (f : First) → IsAt w.order k f
      → (q : ℕ) × (q < n)
      × In (delivered_of f) ((whole start n registers (take (f.at + 1) w.accepted)).nodes q).deliveries

-- The casts made, each by the process of its id, under the id that called its operation.
pub record CastsRight (n : ℕ) (w : World) : Type 0 where
  pub made : (c : Cast) → ((k : ℕ) × IsAt w.casts k c)
      → IsMade n w.nodes (record { stamp = c.stamp; op = c.op }) × (c.stamp.process ≡ c.id.process)
  pub all : (d : Delivered) → IsMade n w.nodes d
      → (id : OpId) × ((k : ℕ) × IsAt w.casts k (record { stamp = d.stamp; id = id; op = d.op }))
  pub called : (c : Cast) → ((k : ℕ) × IsAt w.casts k c) → (at : ℕ) × IsCalled w.history c.id at c.op
  pub once : (c d : Cast) → ((k : ℕ) × IsAt w.casts k c) → ((k : ℕ) × IsAt w.casts k d) → c.id ≡ d.id → c ≡ d

-- the front end answers the operation before its cast is delivered, by how many own casts its process awaits before
-- event at
abbrev pub IsAnsweredFirst : (Op → ℕ → Start) → ℕ → ℕ → World → OpId → ℕ → Op → Type 0
IsAnsweredFirst start n registers w id at op =
    start op (unsettled ((whole start n registers (take at w.accepted)).nodes id.process).state) ≡ CastsAndAnswers

-- The replies are the answers of the history, each that of the memory after the first casts of the order, as many as
-- its place says. Where the operation made a cast, the cast stands at the place; except where the front end answers the
-- operation before its delivery, in the call's own event.
pub record RepliesRight (start : Op → ℕ → Start) (n registers : ℕ) (w : World) : Type 0 where
  pub answered : (y : Replied) → ((k : ℕ) × IsAt w.replies k y) → IsAnswered w.history y.id y.at y.reply.answer
  pub all : (id : OpId) (at : ℕ) (x : Answer) → IsAnswered w.history id at x
      → (y : Replied) × ((k : ℕ) × IsAt w.replies k y) × (y.id ≡ id) × (y.at ≡ at) × (y.reply.answer ≡ x)
  pub within : (y : Replied) → ((k : ℕ) × IsAt w.replies k y) → y.reply.place ≤ length w.order
  pub right : (y : Replied) (at : ℕ) (op : Op) → ((k : ℕ) × IsAt w.replies k y) → IsCalled w.history y.id at op
      → y.reply.answer ≡ answer_of op (memory_of (run_of registers w) y.reply.place)
  pub own : (y : Replied) (c : Cast) (at : ℕ) (op : Op) → ((k : ℕ) × IsAt w.replies k y) → ((k : ℕ) × IsAt w.casts k c)
      → c.id ≡ y.id → IsCalled w.history y.id at op
      → ((y.at ≡ at) × IsAnsweredFirst start n registers w y.id at op)
      ⊎ ((f : First) × IsAt w.order y.reply.place f × (f.id ≡ y.id))

-- The reads are exactly the finished operations that made no cast, with the places of their replies, in order of their
-- answers.
pub record ReadsRight (w : World) : Type 0 where
  pub some : (q : CopyRead) → ((k : ℕ) × IsAt w.reads k q)
      → (y : Replied) × ((k : ℕ) × IsAt w.replies k y) × (y.id ≡ q.id) × (y.reply.place ≡ q.place)
  pub no_cast : (q : CopyRead) (c : Cast) → ((k : ℕ) × IsAt w.reads k q) → ((k : ℕ) × IsAt w.casts k c) → c.id ≡ q.id
      → ⊥
  pub all : (y : Replied) → ((k : ℕ) × IsAt w.replies k y)
      → ((c : Cast) → ((k : ℕ) × IsAt w.casts k c) → c.id ≡ y.id → ⊥)
      → (k : ℕ) × IsAt w.reads k (record { id = y.id; place = y.reply.place })
  pub in_order : (i j : ℕ) (p q : CopyRead) (s t : ℕ) (x y : Answer) → IsAt w.reads i p → IsAt w.reads j q → i < j
      → IsAnswered w.history p.id s x → IsAnswered w.history q.id t y → s < t
