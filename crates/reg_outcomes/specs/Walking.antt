-- A search for an order under way, from stage to stage. They carry a proof: no promise speaks of them.
use Rattle.std.specs.Prelude.{ℕ, ◌≡◌, ◌≢◌, ◌<◌, ◌≤◌, ◌⊎◌, List, [], ◌∷◌, ◌++◌, length, map, slice_index, slice_set}
use Rattle.std.specs.Prelude.{Some}
use Rattle.std.specs.Int.{bit_at}
use Rattle.std.specs.BTreeMap.{BTreeMap}
use Rattle.reg_base.specs.declared.memory.Answer.{Answer}
use Rattle.reg_base.specs.declared.memory.Op.{Op}
use Rattle.reg_base.specs.declared.memory.OpId.{OpId}
use Rattle.reg_base.specs.Memory.{Memory, after, answer_of, register_of}
use Rattle.reg_base.specs.Order.{In}
use Rattle.reg_checkers.specs.declared.entries.Entry.{Entry}
use Rattle.reg_checkers.specs.declared.facts.Fact.{Fact}
use Rattle.reg_checkers.specs.declared.facts.Given.{Given}
use Rattle.reg_checkers.specs.History.{IsAt}
use Rattle.reg_checkers.specs.Progress.{op_of}
use Rattle.reg_outcomes.specs.declared.faults.InterleavingFault.{InterleavingFault}
use Rattle.reg_outcomes.specs.declared.interleavings.stages.Stage.{Stage as Held}
use Rattle.reg_outcomes.specs.declared.orders.choices.Choice.{Choice}
use Rattle.reg_outcomes.specs.declared.orders.kinds.OrderKind.{OrderKind}
use Rattle.reg_outcomes.specs.declared.orders.walk.Step.{Step}
use Rattle.reg_outcomes.specs.Finding.{placed_after}
use Rattle.reg_outcomes.specs.Interleavings.{Stage, first_stage}
use Rattle.reg_outcomes.specs.Layers.{Refuses, stage_of}
use Rattle.reg_outcomes.specs.Placing.{IsComplete, IsPlaced}

-- from this stage operations can be placed, one after another, up to all finished ones
pub data Goes (kind : OrderKind) (h : List Entry) : Stage → Type 0 where
  Ends : {s : Stage} → IsComplete h s.next → Goes kind h s
  On : {s : Stage} (p : ℕ) (t : Stage) → IsPlaced kind h p s t → Goes kind h t → Goes kind h s

-- the operation leaves each memory as it is where it has this answer
abbrev pub Leaves : Op → Answer → Type 0
Leaves op answer = (m : Memory) → answer_of op m ≡ answer → after op m ≡ m

-- it has such an answer
abbrev pub IsStill : Fact → Type 0
IsStill fact = (given : Given) × (fact.answered ≡ Some given) × Leaves fact.op given.answer

-- the next operations of these processes lead to no order
abbrev pub AreTried : OrderKind → List Entry → Stage → ℕ → Type 0
AreTried kind h s tried = (q : ℕ) (t : Stage) → bit_at tried q ≡ 1 → IsPlaced kind h q s t → ¬ Goes kind h t

-- the process is tried with the operation, and all are where it leaves the memory as it is
pub record IsChoiceOf (p : ℕ) (fact : Fact) (tried : ℕ) (c : Choice) : Type 0 where
  pub process : c.process ≡ p
  pub op : c.op ≡ fact.op
  pub here : bit_at c.tried p ≡ 1
  pub more : tried ≤ c.tried
  pub top : c.tried < 18446744073709551616
  pub others : ((q : ℕ) → q ≢ p → bit_at c.tried q ≡ bit_at tried q) ⊎ IsStill fact

-- the operation may come next, and those that are tried with it lead to no order if it doesn't
pub record IsChoice (kind : OrderKind) (n registers : ℕ) (h : List Entry) (tried : ℕ) (s : Stage)
    (c : Choice) : Type 0 where
  pub process : c.process < n
  pub register : register_of c.op < registers
  pub more : tried < c.tried
  pub top : c.tried < 18446744073709551616
  pub placed : IsPlaced kind h c.process s (placed_after c.process c.op s)
  pub rest : AreTried kind h s tried → (¬ Goes kind h (placed_after c.process c.op s)) → AreTried kind h s c.tried

-- the process was tried, or its next operation may not come next
abbrev pub IsPastBy : OrderKind → List Entry → ℕ → Stage → ℕ → Type 0
IsPastBy kind h tried s p = (bit_at tried p ≡ 1) ⊎ ((to : Stage) → ¬ IsPlaced kind h p s to)

-- so of the first n processes
abbrev pub IsPast : OrderKind → List Entry → ℕ → Stage → ℕ → Type 0
IsPast kind h tried s n = (p : ℕ) → p < n → IsPastBy kind h tried s p

-- what brings the stage before an operation back
abbrev pub step_of : Choice → Stage → Step
step_of c s =
    record {
      id = op_of c.process (slice_index s.next c.process);
      register = register_of c.op;
      before = slice_index s.memory (register_of c.op);
      tried = c.tried;
    }

-- the stage before it
abbrev pub stage_before : Step → Stage → Stage
stage_before x s =
    record {
      next = slice_set s.next x.id.process x.id.number;
      memory = slice_set s.memory x.register x.before;
      told = s.told;
    }

-- the stage has its process and its register
pub record FitsIn (x : Step) (s : Stage) : Type 0 where
  pub process : x.id.process < length s.next
  pub register : x.register < length s.memory

-- the operations of a path
abbrev pub ids_of : List Step → List OpId
ids_of steps = map (λ x. x.id) steps

-- A path leads to this stage: operations that were placed one after another. Where one leads to no order, neither do
-- those that are tried with it.
pub data IsPath (kind : OrderKind) (n registers : ℕ) (h : List Entry) : List Step → Stage → Type 0 where
  Start : IsPath kind n registers h [] (first_stage n registers)
  Longer : {steps : List Step} {s : Stage} (c : Choice) → IsPath kind n registers h steps s
      → register_of c.op < registers → IsPlaced kind h c.process s (placed_after c.process c.op s)
      → ((¬ Goes kind h (placed_after c.process c.op s)) → AreTried kind h s c.tried)
      → IsPath kind n registers h (steps ++ step_of c s ∷ []) (placed_after c.process c.op s)

-- the stages of a layer
abbrev pub reached_in : {A : Type 0} → Held A × Unit {0} → Stage × List ℕ
reached_in e = (stage_of e.0, [])

abbrev pub stages_in : {A : Type 0} → BTreeMap (Held A) (Unit {0}) → List (Stage × List ℕ)
stages_in layer = map reached_in layer.entries

abbrev pub Layers : Type 0 → Type 0
Layers A = List (BTreeMap (Held A) (Unit {0}))

-- the stage is among those to which so many operations lead
abbrev pub HasFailed : {A : Type 0} → Layers A → ℕ → Stage → Type 0
HasFailed {A} layers k s =
    (layer : BTreeMap (Held A) (Unit {0})) × (f : Stage × List ℕ) × IsAt layers k layer × In f (stages_in layer)
    × (f.0 ≡ s)

-- each stage was there
abbrev pub NotesNone : {A : Type 0} → Layers A → Layers A → Type 0
NotesNone old new = (k : ℕ) (s : Stage) → HasFailed new k s → HasFailed old k s

-- each stage was there, or is this one
abbrev pub IsNoted : {A : Type 0} → ℕ → Stage → Layers A → Layers A → Type 0
IsNoted placed t old new = (k : ℕ) (s : Stage) → HasFailed new k s → HasFailed old k s ⊎ ((k ≡ placed) × (s ≡ t))

-- there is no room for the stage
abbrev pub Overfills : {A : Type 0} → ℕ → ℕ → Stage → Layers A → InterleavingFault → Type 0
Overfills {A} limit placed t layers fault =
    (layer : BTreeMap (Held A) (Unit {0})) × IsAt layers placed layer
    × Refuses limit (λ f. f ≡ (t, [])) (stages_in layer) fault
