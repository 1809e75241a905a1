-- What comes before what in each serial order of a history.
use Rattle.std.proofs.Common.{◌≡◌, ◌≢◌, inl, inr, ℕ, zero, suc, ◌+◌, ◌<◌, ◌≤◌, List, [], ◌∷◌, length, replicate, take}
use Rattle.std.proofs.Common.{Some, refl, ap, sym, ◌∙◌, subst, arith, add-one}
use Rattle.std.specs.Prelude.{slice_index}
use Rattle.std.proofs.lemmas.Bool.{cases_eq, cases_lt, cases_order}
use Rattle.std.proofs.lemmas.List.{length-replicate}
use Rattle.reg_base.specs.declared.memory.Op.{Op}
use Rattle.reg_base.specs.declared.memory.OpId.{OpId}
use Rattle.reg_base.specs.Memory.{Memory, after, memory, memory_after, register_of}
use Rattle.reg_base.proofs.Operations.{length-after}
use Rattle.reg_checkers.specs.declared.entries.Entry.{Entry}
use Rattle.reg_checkers.specs.History.{IsAt, IsCalled, IsFinished, IsHistory}
use Rattle.reg_checkers.specs.Orders.{IsSerial}
use Rattle.reg_checkers.specs.Progress.{op_of}
use Rattle.reg_checkers.proofs.Bridges.{zip_right}
use Rattle.reg_checkers.proofs.Histories.{call_is}
use Rattle.reg_checkers.proofs.Places.{element_at, same_at, within}
use Rattle.reg_world.proofs.one_memory.Replicas.{memory-append}
use Rattle.reg_outcomes.specs.declared.orders.kinds.OrderKind.TheVariants.{Serial}
use Rattle.reg_outcomes.specs.Forced.{Comes, IsMaker, IsOnlyMaker, Overwrites}
use Rattle.reg_outcomes.specs.Losing.{IsAsker, made_of}
use Rattle.reg_outcomes.specs.Sought.{Sought}
use Rattle.reg_outcomes.proofs.Elements.{none_at_first, take_at as first_and_next}
use Rattle.reg_outcomes.proofs.Losing.{stays}
use Rattle.reg_outcomes.proofs.Placed.{in_bounds}
use Rattle.reg_outcomes.proofs.Serial.{as_long}

long_after : (ops : List Op) (m : Memory) → length (memory_after ops m) ≡ length m
long_after [] m = refl
long_after (op ∷ ops) m = long_after ops (after op m) ∙ length-after op m

-- the memory after one operation more
memory_at : (registers : ℕ) (ops : List Op) (k : ℕ) (op : Op) → IsAt ops k op
    → memory registers (take (k + 1) ops) ≡ after op (memory registers (take k ops))
memory_at registers ops k op here =
    ap (memory registers) (first_and_next ops k op here) ∙ memory-append (take k ops) (op ∷ []) (replicate registers 0)

-- a value that is not there, and that no operation leaves, doesn't come
still_other : (registers r v : ℕ) (ops : List Op) (from : ℕ) → slice_index (memory registers (take from ops)) r ≢ v
    → (to : ℕ) → from ≤ to → to ≤ length ops
    → ((k : ℕ) (op : Op) → from ≤ k → k < to → IsAt ops k op → register_of op ≡ r → made_of op ≡ Some v → ⊥) → slice_index (memory registers (take to ops)) r ≢ v
still_other registers r v ops from other zero le end never =
    let same : from ≡ 0 = omega (arith, le) in
    subst (λ (k : ℕ). slice_index (memory registers (take k ops)) r ≢ v) same other
still_other registers r v ops from other (suc to) le end never = elim (cases_eq from (suc to)) [
  | inl same ↦ subst (λ (k : ℕ). slice_index (memory registers (take k ops)) r ≢ v) same other
  | inr not ↦
      let here = element_at ops to (omega (arith, end)) in
      let before = still_other registers r v ops from other to (omega (arith, le, not)) (omega (arith, end)) (λ k op low high. never k op low (omega (arith, high))) in
      let now = stays here.0 (memory registers (take to ops)) r v (λ own made. never to here.0 (omega (arith, le, not)) (omega arith) here.1 own made) before in
      subst (λ (m : List ℕ). slice_index m r ≢ v) (sym (memory_at registers ops to here.0 here.1) ∙ ap (λ (k : ℕ). memory registers (take k ops)) (add-one to)) now
]

module _ (s : Sought) (good : IsHistory s.shape.processes s.shape.registers s.entries) where
  abbrev h : List Entry
  h = s.entries

  module _ (ids : List OpId) (serial : IsSerial s.shape.registers h ids) where
    abbrev ops : List Op
    ops = serial.legal.ops

    abbrev memory_to : ℕ → Memory
    memory_to k = memory s.shape.registers (take k ops)

    as_many : length ids ≡ length ops
    as_many = as_long (λ (i : OpId) (o : Op). (t : ℕ) × IsCalled h i t o) ids ops serial.legal.called

    -- the operation that stands at a place
    op_at : (k : ℕ) (id : OpId) (at : ℕ) (op : Op) → IsAt ids k id → IsCalled h id at op → IsAt ops k op
    op_at k id at op here called =
        let its = zip_right (λ (i : OpId) (o : Op). (t : ℕ) × IsCalled h i t o) ids ops k id serial.legal.called here in
        subst (IsAt ops k) (call_is s.shape.processes s.shape.registers h good id its.2.0 at its.0 op its.2.1 called).1 its.1

    -- and its name
    id_at : (k : ℕ) (op : Op) → IsAt ops k op → (id : OpId) × (at : ℕ) × IsAt ids k id × IsCalled h id at op
    id_at k op here =
        let inside = within ops k op here in
        let there = element_at ids k (let e = as_many in omega (arith, inside, e)) in
        let its = zip_right (λ (i : OpId) (o : Op). (t : ℕ) × IsCalled h i t o) ids ops k there.0 serial.legal.called there.1 in
        (there.0, its.2.0, there.1, subst (λ (o : Op). IsCalled h there.0 its.2.0 o) (same_at ops k its.0 op its.1 here) its.2.1)

    -- what a reader finds is left by an operation between it and a place where the register has another value
    not_found : (id : OpId) (value : ℕ × ℕ) (to : ℕ) → IsAt ids to id → IsAsker h (id.process, value) id.number → (from : ℕ) → from ≤ to → slice_index (memory_to from) value.0 ≢ value.1
        → ((k : ℕ) (x : OpId) → from ≤ k → k < to → IsAt ids k x → IsMaker h value x → ⊥) → ⊥
    not_found id value to here (op, at, given, answered, called, answer, asks) from le other never =
        let there = op_at to id at op here called in
        let found = asks (memory_to to) (sym (serial.legal.right to id op answered given here there answer)) in
        let end = within ids to id here in
        let none : (k : ℕ) (o : Op) → from ≤ k → k < to → IsAt ops k o → register_of o ≡ value.0 → made_of o ≡ Some value.1 → ⊥ =
        λ k o low high stands own made. let its = id_at k o stands in never k its.0 low high its.2 (its.1, o, its.3, own, made) in
        still_other s.shape.registers value.0 value.1 ops from other to le (let e = as_many in omega (arith, end, e)) none found

    -- what an operation leaves that overwrites the value
    left_another : (id : OpId) (value : ℕ × ℕ) (k : ℕ) → IsAt ids k id → Overwrites h id value → slice_index (memory_to (k + 1)) value.0 ≢ value.1
    left_another id value k here over =
        let there = op_at k id over.at over.op here over.called in
        let inside = (in_bounds Serial s.shape.processes s.shape.registers h good id over.at over.op over.called).1 in
        let long = long_after (take k ops) (replicate s.shape.registers 0) ∙ length-replicate s.shape.registers 0 in
        let left = over.leaves (memory_to k) (omega (arith, inside, long)) (λ t answer is. serial.legal.right k id over.op t answer here there is) in
        subst (λ (m : List ℕ). slice_index m value.0 ≢ value.1) (sym (memory_at s.shape.registers ops k over.op there)) (subst (λ (r : ℕ). slice_index (after over.op (memory_to k)) r ≢ value.1) over.register left)

  finished : (id : OpId) (value : ℕ × ℕ) → IsAsker h (id.process, value) id.number → IsFinished h id
  finished id value asker = (asker.3, asker.2, asker.5)

  -- the only operation that may leave a value comes before each that finds it, if the value isn't the first one
  pub source_first : (id w : OpId) (value : ℕ × ℕ) → IsAsker h (id.process, value) id.number → IsOnlyMaker h value w
      → value.1 ≢ 0 → Comes s w id
  source_first id w value asker only not_first ids i j serial at_w at_id = elim (cases_lt i j) [
    | inl less ↦ less
    | inr past ↦ absurd (not_found ids serial id value j at_id asker 0 (omega arith) (λ is. not_first (sym is ∙ none_at_first s.shape.registers value.0))
        (λ k x low high here maker. let same : k ≡ i = serial.selection.distinct k i w (subst (IsAt ids k) (only x maker) here) at_w in omega (arith, high, past, same)))
  ]

  -- what overwrites the register before a reader comes before the source
  pub before_source : (id w other : OpId) (value : ℕ × ℕ) → IsAsker h (id.process, value) id.number
      → IsOnlyMaker h value w → Overwrites h other value → Comes s other id → Comes s other w
  before_source id w other value asker only over comes ids i j serial at_other at_w =
      let there = serial.selection.finished id (finished id value asker) in
      let early = comes ids i there.0 serial at_other there.1 in
      elim (cases_lt i j) [
        | inl less ↦ less
        | inr past ↦ absurd (not_found ids serial id value there.0 there.1 asker (i + 1) (omega (arith, early)) (left_another ids serial other value i at_other over)
            (λ k x low high here maker. let same : k ≡ j = serial.selection.distinct k j w (subst (IsAt ids k) (only x maker) here) at_w in omega (arith, low, past, same)))
      ]

  -- what overwrites the register after all that may leave the value comes after each that finds it
  pub behind_reader : (id other : OpId) (value : ℕ × ℕ) → IsAsker h (id.process, value) id.number
      → Overwrites h other value → other ≢ id → ((x : OpId) → IsMaker h value x → Comes s x other) → Comes s id other
  behind_reader id other value asker over apart behind ids i j serial at_id at_other = elim (cases_order i j) [
    | inl same ↦ absurd (apart (same_at ids j other id at_other (subst (λ (k : ℕ). IsAt ids k id) same at_id)))
    | inr q ↦ elim q [
      | inl less ↦ less
      | inr more ↦ absurd (not_found ids serial id value i at_id asker (j + 1) (omega (arith, more)) (left_another ids serial other value j at_other over)
          (λ k x low high here maker. let early = behind x maker ids k j serial here at_other in omega (arith, low, early)))
    ]
  ]

-- an operation comes before the later ones of its process
pub own_comes : (s : Sought) (p m n : ℕ) → m < n → Comes s (op_of p m) (op_of p n)
own_comes s p m n less ids i j serial at_a at_b = serial.own_order i j (op_of p m) (op_of p n) at_a at_b refl less

-- by an operation that stands in each order
pub comes_through : (s : Sought) (a b c : OpId) → IsFinished s.entries b → Comes s a b → Comes s b c → Comes s a c
comes_through s a b c fin first then ids i j serial at_a at_c =
    let there = serial.selection.finished b fin in
    let less = first ids i there.0 serial at_a there.1 in
    let more = then ids there.0 j serial there.1 at_c in
    omega (arith, less, more)

-- none comes before itself
pub none_where_torn : (s : Sought) (a : OpId) → IsFinished s.entries a → Comes s a a → (ids : List OpId)
    → ¬ IsSerial s.shape.registers s.entries ids
none_where_torn s a fin comes ids serial =
    let there = serial.selection.finished a fin in
    let less = comes ids there.0 there.0 serial there.1 there.1 in
    omega (arith, less)
