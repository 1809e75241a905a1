-- Operations placed with all finished ones are an order, and each order can be placed.
use Rattle.std.proofs.Common.{◌≡◌, ◌≢◌, ◌⊎◌, inl, inr, ℕ, zero, suc, ◌+◌, ◌<◌, ◌≤◌, true, List, [], ◌∷◌, ◌++◌, length}
use Rattle.std.proofs.Common.{take, replicate, refl, ap, sym, ◌∙◌, subst, arith, get_or-set_same, get_or-set_other}
use Rattle.std.proofs.Common.{add-one}
use Rattle.std.specs.Prelude.{slice_index, slice_set}
use Rattle.std.specs.List.{AllZip}
use Rattle.std.proofs.lemmas.Bool.{cases_eq, cases_order}
use Rattle.std.proofs.lemmas.List.{take-append-le, take_all, take_at}
use Rattle.reg_base.specs.declared.memory.Answer.{Answer}
use Rattle.reg_base.specs.declared.memory.Op.{Op}
use Rattle.reg_base.specs.declared.memory.OpId.{OpId}
use Rattle.reg_base.specs.Memory.{after, answer_of, memory, updates}
use Rattle.reg_base.specs.Order.{In}
use Rattle.reg_checkers.specs.declared.entries.Entry.{Entry}
use Rattle.reg_checkers.specs.declared.entries.Entry.TheVariants.{Called}
use Rattle.reg_checkers.specs.Checks.{AreCalled}
use Rattle.reg_checkers.specs.History.{IsAt, IsAnswered, IsCalled, IsHistory, MayCall, WasCalled}
use Rattle.reg_checkers.specs.Orders.{IsDistinct, IsSerial, KeepsOwnOrder}
use Rattle.reg_checkers.specs.Progress.{id_of, op_of}
use Rattle.reg_checkers.specs.Table.{MayStand}
use Rattle.reg_checkers.proofs.Bridges.{zip_right}
use Rattle.reg_checkers.proofs.Histories.{answered_before_next, answered_was_called, call_is}
use Rattle.reg_checkers.proofs.NoOrder.{same_ops}
use Rattle.reg_checkers.proofs.OwnOrder.{zip_push}
use Rattle.reg_checkers.proofs.Places.{at_take, element_at, in_take, within}
use Rattle.reg_checkers.proofs.Pushing.{at_push}
use Rattle.reg_outcomes.proofs.Elements.{none_at_first, take_at as first_and_next}
use Rattle.reg_world.proofs.lists.Bodies.{place_first, place_last}
use Rattle.reg_world.proofs.lists.Members.{at_in}
use Rattle.reg_world.proofs.one_memory.Replicas.{memory-append}
use Rattle.reg_outcomes.specs.declared.orders.kinds.OrderKind.{OrderKind}
use Rattle.reg_outcomes.specs.declared.orders.kinds.OrderKind.TheVariants.{Serial, Points}
use Rattle.reg_outcomes.specs.Finding.{MayCome, MayFollow, Next, Nothing, Places, placed_after}
use Rattle.reg_outcomes.specs.Interleavings.{Stage, first_stage}
use Rattle.reg_outcomes.specs.Placing.{IsComplete, IsOrder, KeepsRealTime, KeepsTime}
use Rattle.reg_outcomes.proofs.Layering.{no_more}
use Rattle.reg_outcomes.proofs.Placed.{in_bounds, room}

pub as_long : {X Y : Type 0} (R : X → Y → Type 0) (xs : List X) (ys : List Y) → AllZip R xs ys → length xs ≡ length ys
as_long R [] [] all = refl
as_long R [] (y ∷ ys) all = absurd all
as_long R (x ∷ xs) [] all = absurd all
as_long R (x ∷ xs) (y ∷ ys) all = ap suc (as_long R xs ys all.1)

zip_first : {X Y : Type 0} (R : X → Y → Type 0) (k : ℕ) (xs : List X) (ys : List Y) → AllZip R xs ys
    → AllZip R (take k xs) (take k ys)
zip_first R zero xs ys all = tt
zip_first R (suc k) [] [] all = tt
zip_first R (suc k) [] (y ∷ ys) all = absurd all
zip_first R (suc k) (x ∷ xs) [] all = absurd all
zip_first R (suc k) (x ∷ xs) (y ∷ ys) all = (all.0, zip_first R k xs ys all.1)

-- Of each process the first ones are placed, so many as the stage counts.
pub record AreFirst (ids : List OpId) (next : List ℕ) : Type 0 where
  pub below : (j : ℕ) (id : OpId) → IsAt ids j id → id.number < slice_index next id.process
  pub all : (p m : ℕ) → m < slice_index next p → (j : ℕ) × IsAt ids j (op_of p m)
  pub distinct : IsDistinct ids
  pub own : KeepsOwnOrder ids

first_none : (n : ℕ) → AreFirst [] (replicate n 0)
first_none n = record {
  below = λ j id at. absurd (no_place j id at);
  all = λ p m lt. let e = none_at_first n p in absurd (omega (arith, lt, e));
  distinct = λ i j id at. absurd (no_place i id at);
  own = λ i j a b at. absurd (no_place i a at);
}
  where
    no_place : (j : ℕ) (id : OpId) → IsAt [] j id → ⊥
    no_place j id at = cc

module _ (ids : List OpId) (next : List ℕ) (id : OpId) (first : AreFirst ids next) (number : id.number ≡ slice_index next id.process) (inside : id.process < length next) where
  abbrev now : List ℕ
  now = slice_set next id.process (slice_index next id.process + 1)

  same_one : slice_index now id.process ≡ slice_index next id.process + 1
  same_one = get_or-set_same next id.process (slice_index next id.process + 1) 0 inside

  others_stay : (q : ℕ) → q ≢ id.process → slice_index now q ≡ slice_index next q
  others_stay q away = get_or-set_other next id.process q (slice_index next id.process + 1) 0 away

  grows : (q : ℕ) → slice_index next q ≤ slice_index now q
  grows q = elim (cases_eq q id.process) [
    | inl same ↦
        let a : slice_index now q ≡ slice_index now id.process = ap (slice_index now) same in
        let b : slice_index next q ≡ slice_index next id.process = ap (slice_index next) same in
        let e = same_one in
        omega (arith, a, b, e)
    | inr away ↦ let e = others_stay q away in omega (arith, e)
  ]

  below_now : (j : ℕ) (x : OpId) → IsAt (ids ++ id ∷ []) j x → x.number < slice_index now x.process
  below_now j x at = elim (at_push ids j id x at) [
    | inl old ↦ let lt = first.below j x old in let le = grows x.process in omega (arith, lt, le)
    | inr new ↦
        let a : slice_index now x.process ≡ slice_index now id.process = ap (λ (i : OpId). slice_index now i.process) new.1 in
        let b : x.number ≡ id.number = ap (λ (i : OpId). i.number) new.1 in
        let e = same_one in
        let n = number in
        omega (arith, a, b, e, n)
  ]

  all_now : (p m : ℕ) → m < slice_index now p → (j : ℕ) × IsAt (ids ++ id ∷ []) j (op_of p m)
  all_now p m lt = elim (cases_eq p id.process) [
    | inl same ↦ elim (cases_eq m id.number) [
      | inl e ↦ let one : id ≡ op_of p m = (λ i. record { process = sym same i; number = sym e i }) in (length ids, subst (λ x. IsAt (ids ++ id ∷ []) (length ids) x) one (place_last ids id))
      | inr ne ↦
          let a : slice_index now p ≡ slice_index now id.process = ap (slice_index now) same in
          let b : slice_index next p ≡ slice_index next id.process = ap (slice_index next) same in
          let e = same_one in
          let n = number in
          let old = first.all p m (omega (arith, a, b, e, n, lt, ne)) in
          (old.0, place_first ids (id ∷ []) old.0 (op_of p m) old.1)
    ]
    | inr away ↦
        let e = others_stay p away in
        let old = first.all p m (omega (arith, e, lt)) in
        (old.0, place_first ids (id ∷ []) old.0 (op_of p m) old.1)
  ]

  -- what stands already is no later operation of the process
  not_yet : (j : ℕ) (x : OpId) → IsAt ids j x → x.process ≡ id.process → x.number < id.number
  not_yet j x at same =
      let lt = first.below j x at in
      let e : slice_index next x.process ≡ slice_index next id.process = ap (slice_index next) same in
      let n = number in
      omega (arith, lt, e, n)

  not_itself : (j : ℕ) → IsAt ids j id → ⊥
  not_itself j at = let bad : id.number < id.number = not_yet j id at refl in omega (arith, bad)

  distinct_now : IsDistinct (ids ++ id ∷ [])
  distinct_now i j x at here = go (at_push ids i id x at) (at_push ids j id x here)
    where
      go : IsAt ids i x ⊎ ((i ≡ length ids) × (x ≡ id)) → IsAt ids j x ⊎ ((j ≡ length ids) × (x ≡ id)) → i ≡ j
      go (inl a) (inl b) = first.distinct i j x a b
      go (inl a) (inr b) = absurd (not_itself i (subst (IsAt ids i) b.1 a))
      go (inr a) (inl b) = absurd (not_itself j (subst (IsAt ids j) a.1 b))
      go (inr a) (inr b) = a.0 ∙ sym b.0

  own_now : KeepsOwnOrder (ids ++ id ∷ [])
  own_now i j a b at here same less = go (at_push ids i id a at) (at_push ids j id b here)
    where
      go : IsAt ids i a ⊎ ((i ≡ length ids) × (a ≡ id)) → IsAt ids j b ⊎ ((j ≡ length ids) × (b ≡ id)) → i < j
      go (inl x) (inl y) = first.own i j a b x y same less
      go (inl x) (inr y) = let lt = within ids i a x in let e = y.0 in omega (arith, lt, e)
      go (inr x) (inl y) =
          let p : b.process ≡ id.process = sym same ∙ ap (λ (i : OpId). i.process) x.1 in
          let n : a.number ≡ id.number = ap (λ (i : OpId). i.number) x.1 in
          let lt = not_yet j b y p in
          absurd (omega (arith, lt, n, less))
      go (inr x) (inr y) =
          let n : a.number ≡ b.number = ap (λ (i : OpId). i.number) (x.1 ∙ sym y.1) in
          absurd (omega (arith, n, less))

  first_more : AreFirst (ids ++ id ∷ []) now
  first_more = record { below = below_now; all = all_now; distinct = distinct_now; own = own_now }

-- Operations that were placed are called, each may stand, and each answer is that of the memory.
pub record IsSound (registers : ℕ) (h : List Entry) (ids : List OpId) (s : Stage) : Type 0 where
  pub ops : List Op
  pub called : AreCalled h ids ops
  pub memory_is : s.memory ≡ memory registers ops
  pub right : (k : ℕ) (id : OpId) (op : Op) (at : ℕ) (answer : Answer) → IsAt ids k id → IsAt ops k op
      → IsAnswered h id at answer → answer ≡ answer_of op (memory registers (take k ops))
  pub stand : (k : ℕ) (id : OpId) → IsAt ids k id → MayStand h id

module _ (kind : OrderKind) (n registers : ℕ) (h : List Entry) where
  sound_more : (ids : List OpId) (s : Stage) (id : OpId) (op : Op) (at : ℕ) → IsCalled h id at op → MayCome h id op (answer_of op s.memory) → IsSound registers h ids s → IsSound registers h (ids ++ id ∷ []) (placed_after id.process op s)
  sound_more ids s id op at called comes old = record {
    ops = old.ops ++ op ∷ [];
    called = zip_push (λ (i : OpId) (o : Op). (t : ℕ) × IsCalled h i t o) ids old.ops id op old.called (at, called);
    memory_is = ap (after op) old.memory_is ∙ sym (memory-append old.ops (op ∷ []) (replicate registers 0));
    right = right;
    stand = stand;
  }
    where
      same_length : length ids ≡ length old.ops
      same_length = as_long (λ (i : OpId) (o : Op). (t : ℕ) × IsCalled h i t o) ids old.ops old.called

      right : (k : ℕ) (x : OpId) (o : Op) (t : ℕ) (answer : Answer) → IsAt (ids ++ id ∷ []) k x → IsAt (old.ops ++ op ∷ []) k o → IsAnswered h x t answer → answer ≡ answer_of o (memory registers (take k (old.ops ++ op ∷ [])))
      right k x o t answer here its is = go (at_push ids k id x here) (at_push old.ops k op o its)
        where
          go : IsAt ids k x ⊎ ((k ≡ length ids) × (x ≡ id)) → IsAt old.ops k o ⊎ ((k ≡ length old.ops) × (o ≡ op)) → answer ≡ answer_of o (memory registers (take k (old.ops ++ op ∷ [])))
          go (inl a) (inl b) =
              let lt = within old.ops k o b in
              old.right k x o t answer a b is ∙ ap (λ (l : List Op). answer_of o (memory registers l)) (sym (take-append-le k old.ops (op ∷ []) (omega (arith, lt))))
          go (inl a) (inr b) = let lt = within ids k x a in let e = b.0 in let l = same_length in absurd (omega (arith, lt, e, l))
          go (inr a) (inl b) = let lt = within old.ops k o b in let e = a.0 in let l = same_length in absurd (omega (arith, lt, e, l))
          go (inr a) (inr b) =
              let given : answer ≡ answer_of op s.memory = comes.0 t answer (subst (λ (i : OpId). IsAnswered h i t answer) a.1 is) in
              given ∙ ap (λ (m : List ℕ). answer_of op m) (old.memory_is ∙ ap (memory registers) (sym (take_at old.ops (op ∷ []) k (sym b.0))))
              ∙ ap (λ (p : Op). answer_of p (memory registers (take k (old.ops ++ op ∷ [])))) (sym b.1)

      stand : (k : ℕ) (x : OpId) → IsAt (ids ++ id ∷ []) k x → MayStand h x
      stand k x here = elim (at_push ids k id x here) [
        | inl a ↦ old.stand k x a
        | inr b ↦ subst (MayStand h) (sym b.1) (elim comes.1 [ inl fin ↦ inl fin | inr up ↦ inr (at, op, called, up) ])
      ]

  pub sound_of : (ids : List OpId) (s : Stage) → Places kind n registers h ids s → IsSound registers h ids s
  sound_of ids s Nothing = record { ops = []; called = tt; memory_is = refl; right = λ k id op at answer here. absurd (no_place k id here); stand = λ k id here. absurd (no_place k id here) }
    where
      no_place : (j : ℕ) (id : OpId) → IsAt [] j id → ⊥
      no_place j id at = cc
  sound_of ids s (Next {ids = old} {s = from} id op at places number called comes follows) = sound_more old from id op at called comes (sound_of old from places)

module _ (kind : OrderKind) (n registers : ℕ) (h : List Entry) (good : IsHistory n registers h) where
  pub first_of : (ids : List OpId) (s : Stage) → Places kind n registers h ids s → AreFirst ids s.next
  first_of ids s Nothing = first_none n
  first_of ids s (Next {ids = old} {s = from} id op at places number called comes follows) =
      let process = (in_bounds kind n registers h good id at op called).0 in
      let size = (room kind n registers h old from places).next in
      first_more old from.next id (first_of old from places) number (omega (arith, process, size))

-- What was answered before the call of one of them stands before it, where the kind asks for it.
module _ (n registers : ℕ) (h : List Entry) (good : IsHistory n registers h) where
  real_time : (ids : List OpId) (s : Stage) → Places Points n registers h ids s → KeepsRealTime h ids
  real_time ids s Nothing i id other at answered op answer here call ans lt = absurd (no_place i id here)
    where
      no_place : (j : ℕ) (x : OpId) → IsAt [] j x → ⊥
      no_place j x at = cc
  real_time ids s (Next {ids = old} {s = from} x op₀ at₀ places number called comes follows) i id other at answered op answer here call ans lt = elim (at_push old i x id here) [
    | inl before ↦ let there = real_time old from places i id other at answered op answer before call ans lt in (there.0, there.1, place_first old (x ∷ []) there.0 other there.2)
    | inr new ↦
        let less : other.number < slice_index from.next other.process = follows at op (subst (λ (y : OpId). IsCalled h y at op) new.1 call) other answered answer ans lt in
        let there = (first_of Points n registers h good old from places).all other.process other.number less in
        let inside = within old there.0 other there.1 in
        let last = new.0 in
        (there.0, omega (arith, inside, last), place_first old (x ∷ []) there.0 other there.1)
  ]

  pub time_of : (kind : OrderKind) (ids : List OpId) (s : Stage) → Places kind n registers h ids s
      → KeepsTime kind h ids
  time_of Serial ids s places = tt
  time_of Points ids s places = real_time ids s places

-- and where it stands before it, it is placed before
follows_of : (h : List Entry) (kind : OrderKind) (ids : List OpId) (k : ℕ) (next : List ℕ) (id : OpId)
    → KeepsTime kind h ids → AreFirst (take k ids) next → IsAt ids k id → MayFollow kind h next id
follows_of h Serial ids k next id time first here = tt
follows_of h Points ids k next id time first here = λ at op call other answered answer ans lt.
    let there = time k id other at answered op answer here call ans lt in
    first.below there.0 other (at_take ids k there.0 there.1 ∙ there.2)

module _ (kind : OrderKind) (n registers : ℕ) (h : List Entry) (good : IsHistory n registers h) where
  -- with all finished operations they are a serial order
  pub serial_is : (ids : List OpId) (s : Stage) → Places kind n registers h ids s → IsComplete h s.next
      → IsSerial registers h ids
  serial_is ids s places complete =
      let sound = sound_of kind n registers h ids s places in
      let first = first_of kind n registers h good ids s places in
      record {
        selection = record { distinct = first.distinct; finished = λ id fin. first.all id.process id.number (complete id fin); known = sound.stand };
        legal = record { ops = sound.ops; called = sound.called; right = sound.right };
        own_order = first.own;
      }

  module _ (ids : List OpId) (order : IsOrder kind registers h ids) where
    abbrev serial : IsSerial registers h ids
    serial = order.serial

    abbrev ops : List Op
    ops = serial.legal.ops

    -- the next operation of the order is the next one of its process
    is_next : (k : ℕ) (s : Stage) (id : OpId) (at : ℕ) (op : Op) → Places kind n registers h (take k ids) s → IsAt ids k id → IsCalled h id at op → id.number ≡ slice_index s.next id.process
    is_next k s id at op places here called = elim (cases_order id.number (slice_index s.next id.process)) [
      | inl e ↦ e
      | inr q ↦ elim q [
        | inl less ↦
            let there = (first_of kind n registers h good (take k ids) s places).all id.process id.number less in
            let old = in_take ids k there.0 id there.1 in
            let same : there.0 ≡ k = serial.selection.distinct there.0 k id old.1 here in
            let lt = old.0 in
            absurd (omega (arith, lt, same))
        | inr more ↦
            let lower : OpId = op_of id.process (slice_index s.next id.process) in
            let may : MayCall n registers (take called.0 h) at id op = good called.0 (Called at id op) called.1 in
            let was : WasCalled (take called.0 h) lower = (may.next (slice_index s.next id.process)).0 more in
            let fin = answered_before_next n registers h good lower id at op (was.0, was.1, (was.2.0, (in_take h called.0 was.2.0 (Called was.0 lower was.1) was.2.1).1)) called refl more in
            let there = serial.selection.finished lower (fin.0, fin.1, fin.2) in
            let before : there.0 < k = serial.own_order there.0 k lower id there.1 here refl more in
            let bad : slice_index s.next id.process < slice_index s.next id.process = (first_of kind n registers h good (take k ids) s places).below there.0 lower (at_take ids k there.0 before ∙ there.1) in
            absurd (omega (arith, bad))
      ]
    ]

    -- the stage after the first k operations
    walk : (k : ℕ) → k ≤ length ids → (s : Stage) × Places kind n registers h (take k ids) s
    walk zero le = (first_stage n registers, Nothing)
    walk (suc k) le =
        let before = walk k (omega (arith, le)) in
        let s : Stage = before.0 in
        let here = element_at ids k (omega (arith, le)) in
        let id : OpId = here.0 in
        let its = zip_right (λ (i : OpId) (o : Op). (at : ℕ) × IsCalled h i at o) ids ops k id serial.legal.called here.1 in
        let op : Op = its.0 in
        let sound = sound_of kind n registers h (take k ids) s before.1 in
        let same : sound.ops ≡ take k ops = same_ops n registers h good (take k ids) sound.ops (take k ops) sound.called (zip_first (λ (i : OpId) (o : Op). (at : ℕ) × IsCalled h i at o) k ids ops serial.legal.called) in
        let memory_is : s.memory ≡ memory registers (take k ops) = sound.memory_is ∙ ap (memory registers) same in
        let comes : MayCome h id op (answer_of op s.memory) = (
          λ t given is. serial.legal.right k id op t given here.1 its.1 is ∙ ap (answer_of op) (sym memory_is),
          elim (serial.selection.known k id here.1) [
            | inl fin ↦ inl fin
            | inr c ↦ inr (subst (λ (o : Op). updates o ≡ true) (call_is n registers h good id c.0 its.2.0 c.1 op c.2 its.2.1).1 c.3)
          ],
        ) in (
          placed_after id.process op s,
          subst (λ (l : List OpId). Places kind n registers h l (placed_after id.process op s)) (sym (ap (λ (m : ℕ). take m ids) (sym (add-one k)) ∙ first_and_next ids k id here.1))
              (Next id op its.2.0 before.1 (is_next k s id its.2.0 op before.1 here.1 its.2.1) its.2.1 comes (follows_of h kind ids k s.next id order.time (first_of kind n registers h good (take k ids) s before.1) here.1)),
        )

    -- an order can be placed, and has all finished operations then
    pub whole_is : (s : Stage) × Places kind n registers h ids s × IsComplete h s.next
    whole_is =
        let end = walk (length ids) (omega arith) in
        let places = subst (λ (l : List OpId). Places kind n registers h l end.0) (take_all (length ids) ids (omega arith)) end.1 in
        let first = first_of kind n registers h good ids end.0 places in
        (end.0, places, λ id fin. let there = serial.selection.finished id fin in first.below there.0 id there.1)

  -- operations that were placed are no more than the history has entries
  pub few : (ids : List OpId) (s : Stage) → Places kind n registers h ids s → length ids ≤ length h
  few ids s places = no_more id_of ids h (first_of kind n registers h good ids s places).distinct (λ i id at. from id ((sound_of kind n registers h ids s places).stand i id at))
    where
      entry : (id : OpId) → WasCalled h id → (e : Entry) × In e h × (id_of e ≡ id)
      entry id (at, op, (k, here)) = (Called at id op, at_in (Called at id op) h (k, here), refl)

      from : (id : OpId) → MayStand h id → (e : Entry) × In e h × (id_of e ≡ id)
      from id (inl fin) = entry id (answered_was_called n registers h good id fin.0 fin.1 fin.2)
      from id (inr c) = entry id (c.0, c.1, c.2)
