-- A history with a point order has one for each of its first parts: of the points those stay whose operation is
-- finished
-- there, or is an update that was called there.
use Rattle.std.proofs.Common.{◌≡◌, ◌⊎◌, inl, inr, ℕ, suc, ◌<◌, ◌≤◌, Bool, true, false, cond, ◌&&◌, ◌==◌, List, [], ◌∷◌}
use Rattle.std.proofs.Common.{map, replicate, take, refl, ap, ap₂, sym, ◌∙◌, subst, arith}
use Rattle.std.specs.List.{filter, list_any}
use Rattle.std.proofs.lemmas.Bool.{and_from, and_parts, cases_order, eq-eqb, eqb-true, false_from_ne_true}
use Rattle.reg_base.specs.declared.memory.OpId.{OpId}
use Rattle.reg_base.specs.declared.memory.Op.{Op}
use Rattle.reg_base.specs.declared.memory.Op.TheVariants.{Read, Write, Swap, CompareAndSwap}
use Rattle.reg_base.specs.declared.memory.Answer.{Answer}
use Rattle.reg_base.specs.Memory.{Memory, after, updates}
use Rattle.reg_checkers.specs.declared.entries.Entry.{Entry}
use Rattle.reg_checkers.specs.declared.entries.Entry.TheVariants.{Called, Answered}
use Rattle.reg_checkers.specs.declared.entries.Point.{Point}
use Rattle.reg_checkers.specs.History.{IsAt, IsAnswered, IsCalled, IsFinished, IsHistory, MayCall, WasCalled}
use Rattle.reg_checkers.specs.Orders.{IsPointOrder}
use Rattle.reg_checkers.proofs.Histories.{call_is}
use Rattle.reg_checkers.proofs.Noting.{history_front}
use Rattle.reg_checkers.proofs.Places.{at_map, at_take, in_take}
use Rattle.reg_judge.specs.Judging.{HasPointOrder}
use Rattle.reg_judge.proofs.Filters.{InOrder, in_order_filter, in_order_rest, kept, kept_names, was_kept}
use Rattle.reg_judge.proofs.Locality.{Differ, differ_from, distinct_from, legal_from, runs_by}
use Rattle.reg_judge.proofs.PartFacts.{any_from, at_any, finished_called}
use Rattle.reg_judge.proofs.SameMemory.{Runs}

abbrev is_id : OpId → OpId → Bool
is_id a b = a.process == b.process && a.number == b.number

id_is : (a b : OpId) → is_id a b ≡ true → a ≡ b
id_is a b is =
    let both = and_parts (a.process == b.process) (a.number == b.number) is in
    ap₂ (λ (x y : ℕ). let it : OpId = record { process = x; number = y } in it) (eqb-true a.process b.process both.0) (eqb-true a.number b.number both.1)

id_self : (a : OpId) → is_id a a ≡ true
id_self a = and_from (a.process == a.process) (a.number == a.number) (eq-eqb a.process a.process refl) (eq-eqb a.number a.number refl)

-- whether the entry calls the operation of this id
abbrev calls : OpId → Entry → Bool
calls id (Called at other op) = is_id other id
calls id (Answered at other answer) = false

-- whether the entry calls an update of this id, or answers the operation of this id
abbrev keeps : OpId → Entry → Bool
keeps id (Called at other op) = is_id other id && updates op
keeps id (Answered at other answer) = is_id other id

abbrev is_called : List Entry → OpId → Bool
is_called es id = list_any (calls id) es

-- whether the operation of this id is finished there, or is an update that was called there
abbrev stays : List Entry → OpId → Bool
stays es id = list_any (keeps id) es

called_true : (es : List Entry) (id : OpId) → WasCalled es id → is_called es id ≡ true
called_true es id (at, op, (k, here)) = any_from (calls id) es k (Called at id op) here (id_self id)

called_entry : (es : List Entry) (id : OpId) (k : ℕ) (e : Entry) → IsAt es k e → calls id e ≡ true → WasCalled es id
called_entry es id k (Called at other op) here is =
    (at, op, (k, subst (λ (x : OpId). IsAt es k (Called at x op)) (id_is other id is) here))
called_entry es id k (Answered at other answer) here is = absurd cc

called_is : (es : List Entry) (id : OpId) → is_called es id ≡ true → WasCalled es id
called_is es id is = let there = at_any (calls id) es is in called_entry es id there.0 there.1 there.2 there.3

stays_finished : (es : List Entry) (id : OpId) → IsFinished es id → stays es id ≡ true
stays_finished es id (at, answer, (k, here)) = any_from (keeps id) es k (Answered at id answer) here (id_self id)

stays_update : (es : List Entry) (id : OpId) (at : ℕ) (op : Op) → IsCalled es id at op → updates op ≡ true
    → stays es id ≡ true
stays_update es id at op (k, here) up =
    any_from (keeps id) es k (Called at id op) here (and_from (is_id id id) (updates op) (id_self id) up)

abbrev Stays : List Entry → OpId → Type 0
Stays es id = IsFinished es id ⊎ ((at : ℕ) × (op : Op) × IsCalled es id at op × (updates op ≡ true))

stays_entry : (es : List Entry) (id : OpId) (k : ℕ) (e : Entry) → IsAt es k e → keeps id e ≡ true → Stays es id
stays_entry es id k (Called at other op) here is =
    let both = and_parts (is_id other id) (updates op) is in
    inr (at, op, (k, subst (λ (x : OpId). IsAt es k (Called at x op)) (id_is other id both.0) here), both.1)
stays_entry es id k (Answered at other answer) here is =
    inl (at, answer, (k, subst (λ (x : OpId). IsAt es k (Answered at x answer)) (id_is other id is) here))

stays_is : (es : List Entry) (id : OpId) → stays es id ≡ true → Stays es id
stays_is es id is = let there = at_any (keeps id) es is in stays_entry es id there.0 there.1 there.2 there.3

-- what is no update changes nothing
unchanged : (op : Op) (m : Memory) → updates op ≡ false → after op m ≡ m
unchanged (Read r) m is = refl
unchanged (Write r v) m is = absurd cc
unchanged (Swap r v) m is = absurd cc
unchanged (CompareAndSwap r e v) m is = absurd cc

module _ (n registers : ℕ) (h : List Entry) (good : IsHistory n registers h) (count : ℕ) where
  es : List Entry
  es = take count h

  called_in : (id : OpId) (at : ℕ) (op : Op) → IsCalled (take count h) id at op → IsCalled h id at op
  called_in id at op (k, here) = (k, (in_take h count k (Called at id op) here).1)

  answered_in : (id : OpId) (at : ℕ) (answer : Answer) → IsAnswered (take count h) id at answer → IsAnswered h id at answer
  answered_in id at answer (k, here) = (k, (in_take h count k (Answered at id answer) here).1)

  finished_in : (id : OpId) → IsFinished (take count h) id → IsFinished h id
  finished_in id (at, answer, was) = (at, answer, answered_in id at answer was)

  stays_called : (id : OpId) → stays (take count h) id ≡ true → WasCalled (take count h) id
  stays_called id is = elim (stays_is (take count h) id is) [
    | inl fin ↦ finished_called n registers (take count h) (history_front n registers h count good) id fin
    | inr (at, op, called, up) ↦ (at, op, called)
  ]

  -- what stands before a finished operation was called
  abbrev Before : OpId → OpId → Type 0
  Before x y = IsFinished (take count h) y → WasCalled (take count h) x

  -- where none is finished any more, any memory does
  runs_rest : (ids : List OpId) (m : Memory) → ((j : ℕ) (y : OpId) → IsAt ids j y → ¬ IsFinished (take count h) y) → Runs (take count h) m (filter (stays (take count h)) ids)
  runs_rest [] m none = tt
  runs_rest (id ∷ ids) m none = go (λ l. runs_rest ids l (λ j y at. none (suc j) y at)) (stays (take count h) id) refl
    where
      go : ((l : Memory) → Runs (take count h) l (filter (stays (take count h)) ids)) → (c : Bool) → stays (take count h) id ≡ c → Runs (take count h) m (cond c (id ∷ filter (stays (take count h)) ids) (filter (stays (take count h)) ids))
      go rest true is =
          let was = stays_called id is in
          (was.1, (was.0, was.2), λ s answer given. absurd (none 0 id refl (s, answer, given)), rest (after was.1 m))
      go rest false is = rest m

  runs_front : (ids : List OpId) (m : Memory) → InOrder Before ids → Runs h m ids → Runs (take count h) m (filter (stays (take count h)) ids)
  runs_front [] m order runs = tt
  runs_front (id ∷ ids) m order (op, (at, called), gives, rest) = go (runs_front ids (after op m) (in_order_rest Before id ids order) rest) (is_called (take count h) id) refl (stays (take count h) id) refl
    where
      op_is : (s : ℕ) (o : Op) → IsCalled (take count h) id s o → o ≡ op
      op_is s o was = (call_is n registers h good id s at o op (called_in id s o was) called).1

      go : Runs (take count h) (after op m) (filter (stays (take count h)) ids) → (b : Bool) → is_called (take count h) id ≡ b → (c : Bool) → stays (take count h) id ≡ c → Runs (take count h) m (cond c (id ∷ filter (stays (take count h)) ids) (filter (stays (take count h)) ids))
      go later true named true is =
          let was = called_is (take count h) id named in
          (op, (was.0, subst (λ (o : Op). IsCalled (take count h) id was.0 o) (op_is was.0 was.1 was.2) was.2), λ s answer given. gives s answer (answered_in id s answer given), later)
      go later true named false is =
          let was = called_is (take count h) id named in
          let no : updates op ≡ false = false_from_ne_true (updates op) (λ up. (let yes : stays (take count h) id ≡ true = stays_update (take count h) id was.0 was.1 was.2 (ap updates (op_is was.0 was.1 was.2) ∙ up) in let bad : ⊥ = cc in bad)) in
          subst (λ (l : Memory). Runs (take count h) l (filter (stays (take count h)) ids)) (unchanged op m no) later
      go later false named true is = absurd (let yes : is_called (take count h) id ≡ true = called_true (take count h) id (stays_called id is) in let bad : ⊥ = cc in bad)
      go later false named false is =
          runs_rest ids m
          (λ j y there fin. (let yes : is_called (take count h) id ≡ true = called_true (take count h) id (order 0 (suc j) id y refl there (omega arith) fin) in let bad : ⊥ = cc in bad))

  module _ (ps : List Point) (order : IsPointOrder registers h ps) where
    was_called : (i : ℕ) (x : OpId) → IsAt (map (λ p. p.id) ps) i x → WasCalled h x
    was_called i x at = elim (order.selection.known i x at) [
      | inl fin ↦ finished_called n registers h good x fin
      | inr (s, op, called, up) ↦ (s, op, called)
    ]

    -- a call behind the first part is of a later event than each answer in it
    called_before : (c s : ℕ) (x : OpId) (op : Op) → IsAt h c (Called s x op) → (a e : ℕ) (y : OpId) (answer : Answer) → IsAt (take count h) a (Answered e y answer) → s ≤ e → WasCalled (take count h) x
    called_before c s x op there a e y answer here le = elim (cases_order c count) [
      | inl same ↦ absurd (behind (omega (arith, same)))
      | inr (inl lt) ↦ (s, op, (c, at_take h count c lt ∙ there))
      | inr (inr gt) ↦ absurd (behind (omega (arith, gt)))
    ]
      where
        behind : count ≤ c → ⊥
        behind from =
            let was = in_take h count a (Answered e y answer) here in
            let lt = was.0 in
            let may : MayCall n registers (take c h) s x op = good c (Called s x op) there in
            let less : e < s = may.later a (Answered e y answer) (at_take h c a (omega (arith, lt, from)) ∙ was.1) in
            omega (arith, less, le)

    before : InOrder Before (map (λ p. p.id) ps)
    before i j x y at_x at_y lt (e, answer, (a, here)) =
        let p = at_map (λ (p : Point). p.id) ps i x at_x in
        let q = at_map (λ (p : Point). p.id) ps j y at_y in
        let was = was_called i x at_x in
        let low = order.called i p.0 was.0 was.1 p.1 (subst (λ (z : OpId). IsCalled h z was.0 was.1) (sym p.2) was.2) in
        let rise = order.rising i j p.0 q.0 p.1 q.1 lt in
        let up = order.answered j q.0 e answer q.1 (subst (λ (z : OpId). IsAnswered h z e answer) (sym q.2) (answered_in y e answer (a, here))) in
        called_before was.2.0 was.0 x was.1 was.2.1 a e y answer here (omega (arith, low, rise, up))

    front_points : List Point
    front_points = filter (λ p. stays (take count h) p.id) ps

    names : map (λ p. p.id) (filter (λ p. stays (take count h) p.id) ps) ≡ filter (stays (take count h)) (map (λ p. p.id) ps)
    names = kept_names (λ (p : Point). p.id) (stays (take count h)) ps

    pub front_order : IsPointOrder registers (take count h) (filter (λ p. stays (take count h) p.id) ps)
    front_order = record {
      selection = record {
        distinct = subst (λ (l : List OpId). (i j : ℕ) (id : OpId) → IsAt l i id → IsAt l j id → i ≡ j) (sym names) (distinct_from (filter (stays (take count h)) (map (λ p. p.id) ps)) (in_order_filter Differ (stays (take count h)) (map (λ p. p.id) ps) (differ_from (map (λ p. p.id) ps) order.selection.distinct)));
        finished = λ id fin. (
            let there = order.selection.finished id (finished_in id fin) in
            let found = kept (stays (take count h)) (map (λ p. p.id) ps) there.0 id there.1 (stays_finished (take count h) id fin) in
            (found.0, subst (λ (l : List OpId). IsAt l found.0 id) (sym names) found.1)
            );
        known = λ k id here. stays_is (take count h) id (was_kept (stays (take count h)) (map (λ p. p.id) ps) k id (subst (λ (l : List OpId). IsAt l k id) names here)).1;
      };
      legal = legal_from registers (take count h) (map (λ p. p.id) (filter (λ p. stays (take count h) p.id) ps)) (subst (Runs (take count h) (replicate registers 0)) (sym names) (runs_front (map (λ p. p.id) ps) (replicate registers 0) before (runs_by registers h (map (λ p. p.id) ps) order.legal)));
      called = λ k p at op here was. (let there = was_kept (λ p. stays (take count h) p.id) ps k p here in order.called there.0.0 p at op there.0.1 (called_in p.id at op was));
      answered = λ k p at answer here was. (let there = was_kept (λ p. stays (take count h) p.id) ps k p here in order.answered there.0.0 p at answer there.0.1 (answered_in p.id at answer was));
      rising = in_order_filter (λ p q. p.at ≤ q.at) (λ p. stays (take count h) p.id) ps order.rising;
    }

pub front_has : (n registers : ℕ) (h : List Entry) → IsHistory n registers h → (count : ℕ) → HasPointOrder registers h
    → HasPointOrder registers (take count h)
front_has n registers h good count (ps, order) =
    (filter (λ p. stays (take count h) p.id) ps, front_order n registers h good count ps order)
