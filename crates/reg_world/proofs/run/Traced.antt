-- A run as the proofs see it: with the past of each process beside it.
use Rattle.std.specs.Prelude.{ℕ, ◌+◌, ◌-◌, List, [], ◌∷◌, ◌++◌, map, replicate, Option, Some, None, slice_get, take}
use Rattle.std.specs.Prelude.{◌≡◌, ◌<◌, ◌≤◌, ◌⊎◌, length}
use Rattle.reg_base.specs.declared.stamps.Stamp.{Stamp}
use Rattle.reg_base.specs.declared.stamps.Delivered.{Delivered}
use Rattle.reg_base.specs.declared.memory.Op.{Op}
use Rattle.reg_process.specs.declared.steps.Reply.{Reply}
use Rattle.reg_front.specs.declared.starts.Start.{Start}
use Rattle.reg_process.specs.declared.steps.Step.{Step}
use Rattle.reg_process.specs.declared.steps.Step.TheVariants.{Call as CallStep, Take as TakeStep, Tick as TickStep}
use Rattle.reg_process.specs.declared.events.Event.{Event}
use Rattle.reg_base.specs.Memory.{Memory, answer_of, memory_after}
use Rattle.reg_process.specs.Process.{State, Outcome, step, ops_of}
-- The laws of a run.
use Rattle.reg_base.specs.declared.memory.Answer.TheVariants.{Done}
use Rattle.reg_base.specs.Order.{In, IsPrefixOf}
use Rattle.reg_world.specs.declared.order.First.{First as Arrival}
use Rattle.reg_world.specs.Nodes.{unseen, Said, Nodes, put, op_in}
use Rattle.reg_world.specs.NodeParts.{nodes_after}
use Rattle.reg_world.specs.World.{World, delivered_of, move_of, happens, empty_world, whole}
use Rattle.reg_world.specs.Laws.{IsMade}

-- A cast with the number of the event that first delivered it anywhere.
pub record First : Type 0 where
  pub cast : Delivered
  pub at : ℕ

-- A call with its event number and the stamp of its cast, where it made one; its number is its place in the list.
pub record Called : Type 0 where
  pub op : Op
  pub at : ℕ
  pub cast : Option Stamp

-- An answer: the number of its call, its event number, the operation that ran, and the reply.
pub record Answered : Type 0 where
  pub number : ℕ
  pub at : ℕ
  pub op : Op
  pub reply : Reply

-- What one process was asked and what it answered.
pub record Past : Type 0 where
  pub calls : List Called
  pub answers : List Answered

abbrev pub called_in : ℕ → Step → Option Stamp → List Called
called_in at (CallStep op) cast = record { op = op; at = at; cast = cast } ∷ []
called_in at (TakeStep from frame) cast = []
called_in at TickStep cast = []

abbrev pub answered_in : ℕ → ℕ → Op → Option Reply → List Answered
answered_in at number op None = []
answered_in at number op (Some reply) = record { number = number; at = at; op = op; reply = reply } ∷ []

-- an answer is to the last call
abbrev pub past_after : ℕ → State → Past → Step → State × Outcome → Past
past_after at s h e r = record {
  calls = h.calls ++ called_in at e r.1.cast;
  answers = h.answers ++ answered_in at (r.0.calls - 1) (op_in s e) r.1.reply;
}

-- The nodes, the number of events so far, each cast's first delivery, and the history by process.
pub record Trace : Type 0 where
  pub pasts : ℕ → Past
  pub nodes : Nodes
  pub count : ℕ
  pub order : List First

abbrev pub casts_of : List First → List Delivered
casts_of order = map (λ (f : First). f.cast) order

abbrev pub firsts : ℕ → List Delivered → List First
firsts at casts = map (λ (c : Delivered). record { cast = c; at = at }) casts

-- what one move makes of each part
abbrev pub order_after : (Op → ℕ → Start) → Trace → Option (ℕ × Step) → List First
order_after start v None = v.order
order_after start v (Some m) =
    v.order ++ firsts v.count (unseen (casts_of v.order) (step start (v.nodes m.0).state m.1).1.delivered)

abbrev pub count_after : ℕ → Option (ℕ × Step) → ℕ
count_after k None = k
count_after k (Some m) = k + 1

abbrev pub pasts_after : (Op → ℕ → Start) → Trace → Option (ℕ × Step) → ℕ → Past
pasts_after start v None = v.pasts
pasts_after start v (Some m) =
    put v.pasts m.0 (past_after v.count (v.nodes m.0).state (v.pasts m.0) m.1 (step start (v.nodes m.0).state m.1))

abbrev pub after : (Op → ℕ → Start) → Trace → Option (ℕ × Step) → Trace
after start v m = record { nodes = nodes_after start v.nodes m; count = count_after v.count m; order = order_after start v m; pasts = pasts_after start v m }

-- a first delivery without the operation's id
abbrev pub plain : Arrival → First
plain f = record { cast = delivered_of f; at = f.at }

-- a world, with these pasts beside it
abbrev pub traced_by : World → (ℕ → Past) → Trace
traced_by w pasts = record { pasts = pasts; nodes = w.nodes; count = length w.accepted; order = map plain w.order }

-- the pasts, noted along a run
abbrev pub pasts_along : (Op → ℕ → Start) → ℕ → ℕ → List Event → World → (ℕ → Past) → ℕ → Past
pasts_along start n registers [] w pasts = pasts
pasts_along start n registers (e ∷ es) w pasts = pasts_along start n registers es (happens start n registers w e) (pasts_after start (traced_by w pasts) (move_of n registers w e))

abbrev pub no_pasts : ℕ → Past
no_pasts p = record { calls = []; answers = [] }

-- the run of these events
abbrev pub traced : (Op → ℕ → Start) → ℕ → ℕ → List Event → Trace
traced start n registers events =
    traced_by (whole start n registers events) (pasts_along start n registers events (empty_world n registers) no_pasts)

-- The casts in the order of their first deliveries are the longest list of deliveries: each list of deliveries is a
-- prefix of it, and one list of deliveries is it.
pub record OrderIsLongest (n : ℕ) (w : Trace) : Type 0 where
  pub each : (p : ℕ) → p < n → IsPrefixOf (w.nodes p).deliveries (casts_of w.order)
  pub one : 0 < n → (p : ℕ) × (p < n) × ((w.nodes p).deliveries ≡ casts_of w.order)

-- A reply is what the memory answers after the first casts of the order, as many as its place says.
abbrev pub RepliesRight : ℕ → ℕ → Trace → Type 0
RepliesRight n registers w =
    (p : ℕ) (r : Said) → p < n → In r (w.nodes p).replies →
    (r.reply.place ≤ length (casts_of w.order)) × (r.reply.answer ≡ answer_of r.op (memory_after (ops_of (take r.reply.place (casts_of w.order))) (replicate registers 0)))

-- the call's cast, as it is delivered
abbrev pub cast_of : Stamp → Op → Delivered
cast_of stamp op = record { stamp = stamp; op = op }

-- Where an answer stands: at its own cast, or anywhere if it is always Done; one from the copy after all own casts
-- called
-- before it, and before all called after it.
abbrev pub Stands : List Delivered → List Called → ℕ → ℕ → Called → Option Stamp → Type 0
Stands deliveries calls number place d (Some stamp) =
    ((m : Memory) → answer_of d.op m ≡ Done) ⊎ (slice_get deliveries place ≡ Some (cast_of stamp d.op))
Stands deliveries calls number place d None =
    (j : ℕ) (e : Called) (stamp : Stamp) → slice_get calls j ≡ Some e → e.cast ≡ Some stamp →
    ((j < number → In (cast_of stamp e.op) (take place deliveries)) × (number < j → In (cast_of stamp e.op) (take place deliveries) → ⊥))

-- Each answer is to its call, is the memory's after the first casts of the order, as many as its place says, and stands
-- there.
abbrev pub HistoryRight : ℕ → ℕ → Trace → Type 0
HistoryRight n registers w =
    (p : ℕ) (a : Answered) → p < n → In a (w.pasts p).answers →
    (d : Called) × (slice_get (w.pasts p).calls a.number ≡ Some d)
    × (a.reply.place ≤ length (casts_of w.order))
    × (a.reply.answer ≡ answer_of d.op (memory_after (ops_of (take a.reply.place (casts_of w.order))) (replicate registers 0)))
    × Stands (casts_of w.order) (w.pasts p).calls a.number a.reply.place d d.cast

-- the call that made the cast of this stamp, with its operation; its place is its number
abbrev pub IsCalled : List Called → Stamp → Op → Type 0
IsCalled calls stamp op =
    (number : ℕ) × (d : Called) × (slice_get calls number ≡ Some d) × (d.cast ≡ Some stamp) × (d.op ≡ op)

-- Each cast made was called at its process, with its operation.
abbrev pub CastsCalled : ℕ → Trace → Type 0
CastsCalled n w = (c : Delivered) → IsMade n w.nodes c → IsCalled (w.pasts c.stamp.process).calls c.stamp c.op

-- The answers of a process are one to each call, at places that never fall.
pub record AnswersInOrder (answers : List Answered) : Type 0 where
  pub once : (a b : Answered) → In a answers → In b answers → a.number ≡ b.number → a ≡ b
  pub places : (a b : Answered) → In a answers → In b answers → a.number < b.number → a.reply.place ≤ b.reply.place

-- the events of first deliveries never fall
abbrev pub NeverFalls : List First → Type 0
NeverFalls [] = Unit {0}
NeverFalls (f ∷ fs) = ((g : First) → In g fs → f.at ≤ g.at) × NeverFalls fs

-- A cast's first delivery is not before its call and, where it is answered, not after its answer.
pub record TimesRight (n : ℕ) (order : List First) (pasts : ℕ → Past) : Type 0 where
  pub never_falls : NeverFalls order
  pub after_call : (p number : ℕ) (d : Called) (f : First) → p < n → slice_get (pasts p).calls number ≡ Some d
      → In f order → d.cast ≡ Some f.cast.stamp → d.at ≤ f.at
  pub before_answer : (p : ℕ) (a : Answered) (d : Called) (stamp : Stamp) → p < n → In a (pasts p).answers
      → slice_get (pasts p).calls a.number ≡ Some d → d.cast ≡ Some stamp
      → (f : First) × In f order × (f.cast ≡ cast_of stamp d.op) × (f.at ≤ a.at)
