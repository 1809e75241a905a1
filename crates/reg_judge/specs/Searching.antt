-- A search under way: what runs, and the stages of each register. They carry a proof: no promise speaks of them.
use Rattle.std.specs.Prelude.{ℕ, ◌≡◌, ◌≢◌, ◌+◌, ◌<◌, ◌≤◌, ◌⊎◌, true, List, [], ◌∷◌, ◌++◌, Option, Some, None, length}
use Rattle.std.specs.Prelude.{drop, option_map, option_and_then, slice_get, slice_set, Vec}
use Rattle.std.specs.BTreeMap.{BTreeMap, get}
use Rattle.std.specs.Option.{option_cmp, unwrap_or}
use Rattle.std.specs.declared.cmp.Ordering.{Ordering}
use Rattle.std.specs.Ordering.{nat_cmp, ordering_then}
use Rattle.reg_base.specs.declared.memory.Answer.{Answer}
use Rattle.reg_base.specs.declared.memory.OpId.{OpId}
use Rattle.reg_checkers.specs.declared.entries.Entry.{Entry}
use Rattle.reg_checkers.specs.declared.entries.Entry.TheVariants.{Answered, Called}
use Rattle.reg_checkers.specs.declared.entries.Point.{Point}
use Rattle.reg_checkers.specs.History.{IsAt, IsFinished, IsHistory, WasCalled}
use Rattle.reg_checkers.specs.Orders.{IsPointOrder}
use Rattle.reg_checkers.specs.Table.{IsTable, Rows}
use Rattle.reg_judge.specs.declared.acts.Act.{Act}
use Rattle.reg_judge.specs.declared.calls.Call.{Call}
use Rattle.reg_judge.specs.declared.search.Searched.{Searched}
use Rattle.reg_judge.specs.declared.search.Searched.TheVariants.{AtEntry, Through, Wide}
use Rattle.reg_judge.specs.declared.search.Stepped.{Stepped}
use Rattle.reg_judge.specs.declared.search.Stepped.TheVariants.{On, Stuck, TooMany}
use Rattle.reg_judge.specs.declared.stages.Mover.{Mover}
use Rattle.reg_judge.specs.declared.stages.Stage.{Stage}
use Rattle.reg_judge.specs.declared.acts.Ask.TheVariants.{Anything}
use Rattle.reg_judge.specs.Acts.{Heeds, act_in, alone_in, goes_by}
use Rattle.reg_judge.specs.Completing.{Running}
use Rattle.std.specs.Int.{bit_at}
use Rattle.reg_judge.specs.Stages.{IsAlive, IsClosed, Keeps, Reads}

-- by register, then by value: none, which tells of any, before each
abbrev pub need_cmp : ℕ × Option ℕ → ℕ × Option ℕ → Ordering
need_cmp a b = ordering_then (nat_cmp a.0 b.0) (option_cmp nat_cmp a.1 b.1)

-- For a register and a value, or any value, a number of entries.
abbrev pub NeedsMap : Type 0
NeedsMap = BTreeMap (ℕ × Option ℕ) ℕ

-- the operation was called and has no answer
abbrev pub IsUnanswered : List Entry → OpId → Type 0
IsUnanswered h id = WasCalled h id × (¬ IsFinished h id)

-- the operation runs up to the entry of this place: that is its answer, or it has none
abbrev pub RunsTo : List Entry → OpId → ℕ → Type 0
RunsTo h id j = ((at : ℕ) × (answer : Answer) × IsAt h j (Answered at id answer)) ⊎ (IsUnanswered h id × (j < length h))

-- the need is told of by a number that is not smaller
abbrev pub IsAtLeast : NeedsMap → ℕ × Option ℕ → ℕ → Type 0
IsAtLeast needs q v = (until : ℕ) × (get need_cmp needs q ≡ Some until) × (v ≤ until)

-- what an operation goes by is told of so
abbrev pub HasNoted : Option Act → NeedsMap → ℕ → Type 0
HasNoted o needs v =
    (a : Act) (key : Option ℕ) → o ≡ Some a → goes_by a.asks ≡ Some key → IsAtLeast needs (a.register, key) v

-- A call without an answer is told of by the number of all entries, an answer by that of the entries up to and with it.
abbrev pub IsNoted : {A : Type 0} → Rows A → ℕ → ℕ → Entry → NeedsMap → Type 0
IsNoted rows size j (Called at id op) needs = HasNoted (alone_in rows id) needs size
IsNoted rows size j (Answered at id answer) needs = HasNoted (act_in rows id) needs (j + 1)

-- the first n entries are told of
abbrev pub AreNeedsTo : {A : Type 0} → ℕ → List Entry → Rows A → NeedsMap → Type 0
AreNeedsTo n h rows needs = (j : ℕ) (e : Entry) → j < n → IsAt h j e → IsNoted rows (length h) j e needs

-- up to where an operation runs that goes by a value, or by any, is told of
abbrev pub AreNeeds : List Entry → (OpId → Option Act) → NeedsMap → Type 0
AreNeeds h act needs =
    (j : ℕ) (id : OpId) (a : Act) (key : Option ℕ) → RunsTo h id j → act id ≡ Some a → goes_by a.asks ≡ Some key
    → (until : ℕ) × (get need_cmp needs (a.register, key) ≡ Some until) × (j < until)

-- no operation that heeds what this one leaves runs so late
abbrev pub IsNeededUntil : List Entry → (OpId → Option Act) → Act → ℕ → Type 0
IsNeededUntil h act a until =
    (j : ℕ) (id : OpId) (b : Act) (u : ℕ) → RunsTo h id j → act id ≡ Some b → b.register ≡ a.register → Heeds b.asks u
    → a.makes ≡ Some u → j < until

-- up to where a value of a register is needed, or any, 0 where none is
abbrev pub until_by : NeedsMap → ℕ × Option ℕ → ℕ
until_by needs q = unwrap_or (get need_cmp needs q) 0

-- the operation runs in this process after k entries
pub record IsWaiting (h : List Entry) (act : OpId → Option Act) (k p : ℕ) (c : Call) : Type 0 where
  pub process : c.id.process ≡ p
  pub is : act c.id ≡ Some c.act
  pub needed : IsNeededUntil h act c.act c.needed_until
  pub lasts : k < length h → (j : ℕ) × (k ≤ j) × RunsTo h c.id j

abbrev pub AreWaiting : List Entry → (OpId → Option Act) → ℕ → List (Option Call) → Type 0
AreWaiting h act k running = (p : ℕ) (c : Call) → IsAt running p (Some c) → IsWaiting h act k p c

-- what runs in each process
abbrev pub run_of : List (Option Call) → Running
run_of running p = option_and_then (λ o. option_map (λ c. c.act) o) (slice_get running p)

-- some stage of each register goes on through these entries
abbrev pub AreAlive : {A : Type 0} → (OpId → Option Act) → Running → List Entry → List (Vec Stage A) → Type 0
AreAlive {A} act run es layers = (r : ℕ) (layer : Vec Stage A) → IsAt layers r layer → IsAlive r act run es layer.items

-- a history, its operations, and up to where values are needed
pub record IsKnown {A : Type 0} (n registers : ℕ) (h : List Entry) (rows : Rows A) (needs : NeedsMap) : Type 0 where
  pub history : IsHistory n registers h
  pub few : n ≤ 64
  pub table : IsTable h rows
  pub needed : AreNeeds h (act_in rows) needs

-- the operation of this id as it is called
abbrev pub IsCallOf : {A : Type 0} → Rows A → NeedsMap → OpId → Option Call → Type 0
IsCallOf rows needs id None = act_in rows id ≡ None
IsCallOf rows needs id (Some c) =
    (act_in rows id ≡ Some c.act) × (c.id ≡ id)
    × ((h : List Entry) → AreNeeds h (act_in rows) needs → IsNeededUntil h (act_in rows) c.act c.needed_until)

-- the stages of each register stay, but that a read on it is placed where it fits
abbrev pub AreRead : {A : Type 0} → (OpId → Option Act) → OpId → List (Vec Stage A) → List (Vec Stage A) → Type 0
AreRead {A} act id old new =
    (r : ℕ) (layer : Vec Stage A) → IsAt old r layer
    → (later : Vec Stage A) × IsAt new r later
    × ((later.items ≡ layer.items)
    ⊎ ((a : Act) × (act id ≡ Some a) × (a.register ≡ r) × (a.makes ≡ None) × Reads id.process layer.items later.items))

-- what a step says: where it goes on, some stages go on after it if some went on before; where it is stuck, none did
abbrev pub IsStep : {A : Type 0} → (OpId → Option Act) → ℕ → List Entry → List (Option Call) → List (Vec Stage A)
    → List (Option Call) → List (Vec Stage A) → Stepped → Type 0
IsStep act k h running layers running' layers' On =
    AreAlive act (run_of running) (drop k h) layers → AreAlive act (run_of running') (drop (k + 1) h) layers'
IsStep act k h running layers running' layers' Stuck = ¬ AreAlive act (run_of running) (drop k h) layers
IsStep act k h running layers running' layers' TooMany = Unit {0}

-- the operations of the first n processes that run on a register at the entry of a place
pub record AreMoversTo (n : ℕ) (running : List (Option Call)) (r k : ℕ) (movers : List Mover) : Type 0 where
  pub all : (p : ℕ) (c : Call) → p < n → IsAt running p (Some c) → c.act.register ≡ r
      → (i : ℕ) × (m : Mover) × IsAt movers i m × (m.id ≡ c.id) × (m.act ≡ c.act)
  pub each : (i : ℕ) (m : Mover) → IsAt movers i m
      → (p : ℕ) × (c : Call) × IsAt running p (Some c) × (c.act.register ≡ r) × (m.id ≡ c.id) × (m.act ≡ c.act)
      × (m.free ≡ true → (c.act.asks ≡ Anything) × (c.needed_until ≤ k))

-- the operations that run on a register at the entry of a place
abbrev pub AreMoversOf : List (Option Call) → ℕ → ℕ → List Mover → Type 0
AreMoversOf running r k movers = AreMoversTo (length running) running r k movers

-- what a process runs is at the end, where it is on the register; else all is as it was
abbrev pub IsMoverAdded : Option Call → ℕ → ℕ → List Mover → List Mover → Type 0
IsMoverAdded None r k old new = new ≡ old
IsMoverAdded (Some c) r k old new =
    ((c.act.register ≢ r) × (new ≡ old))
    ⊎ ((c.act.register ≡ r) × (m : Mover) × (new ≡ old ++ m ∷ []) × (m.id ≡ c.id) × (m.act ≡ c.act)
    × (m.free ≡ true → (c.act.asks ≡ Anything) × (c.needed_until ≤ k)))

-- the stages of a register after an answer to what a process runs there
abbrev pub IsLayerAfter : List (Option Call) → ℕ → ℕ → ℕ → List Stage → List Stage → Type 0
IsLayerAfter running r k p old new =
    (((j : ℕ) (s : Stage) → IsAt old j s → bit_at s.placed p ≡ 1) × Keeps p old new)
    ⊎ ((movers : List Mover) × AreMoversOf running r k movers × IsClosed movers p old new)

-- What a process runs is answered: it ran nothing, and all stays; or the stages of its register are those after the
-- answer, and it runs nothing any more.
abbrev pub IsAnswering : {A : Type 0} → ℕ → ℕ → List (Option Call) → List (Vec Stage A) → List (Option Call)
    → List (Vec Stage A) → Stepped → Type 0
IsAnswering {A} p k running layers running' layers' TooMany = Unit {0}
IsAnswering {A} p k running layers running' layers' Stuck =
    (c : Call) × (layer : Vec Stage A) × IsAt running p (Some c) × IsAt layers c.act.register layer
    × IsLayerAfter running c.act.register k p layer.items []
IsAnswering {A} p k running layers running' layers' On =
    (IsAt running p None × (running' ≡ running) × (layers' ≡ layers))
    ⊎ ((c : Call) × (layer later : Vec Stage A) × IsAt running p (Some c) × IsAt layers c.act.register layer
    × IsLayerAfter running c.act.register k p layer.items later.items × (running' ≡ slice_set running p None)
    × (layers' ≡ slice_set layers c.act.register later))

-- nothing is placed at the first stage, and the value is 0
abbrev pub IsFirst : List Stage → Type 0
IsFirst stages = (s : Stage) × IsAt stages 0 s × (s.placed ≡ 0) × (s.value ≡ 0)

-- so for each register
abbrev pub AreFirst : {A : Type 0} → List (Vec Stage A) → Type 0
AreFirst {A} layers = (r : ℕ) (layer : Vec Stage A) → IsAt layers r layer → IsFirst layer.items

-- where a search is stuck, at an entry, there is no point order
abbrev pub IsSearchEnd : {A : Type 0} → ℕ → List Entry → Searched A → Type 0
IsSearchEnd registers h (Through search) = Unit {0}
IsSearchEnd registers h (AtEntry place search) =
    (place < length h) × ((ps : List Point) → ¬ IsPointOrder registers h ps)
IsSearchEnd registers h (Wide place) = Unit {0}
