-- A history has a point order exactly where the part of each register has one.
use Rattle.std.proofs.Common.{◌≡◌, ◌≢◌, ◌⊎◌, inl, inr, ℕ, zero, suc, ◌<◌, ◌≤◌, Bool, true, false, cond, List, [], ◌∷◌}
use Rattle.std.proofs.Common.{map, replicate, refl, ap, sym, ◌∙◌, subst, arith}
use Rattle.std.specs.List.{filter}
use Rattle.std.proofs.lemmas.Bool.{cases_eq, cases_order}
use Rattle.std.proofs.lemmas.List.{length-replicate}
use Rattle.reg_base.specs.declared.memory.OpId.{OpId}
use Rattle.reg_checkers.specs.declared.entries.Entry.{Entry}
use Rattle.reg_checkers.specs.declared.entries.Point.{Point}
use Rattle.reg_checkers.specs.History.{IsAt, IsHistory, WasCalled}
use Rattle.reg_checkers.specs.Orders.{IsDistinct, IsLegal, IsPointOrder}
use Rattle.reg_checkers.proofs.Places.{IsAt-map, at_map}
use Rattle.reg_judge.specs.Judging.{HasPointOrder}
use Rattle.reg_judge.specs.Parts.{part_at}
use Rattle.reg_judge.proofs.Filters.{InOrder, in_order_cons, in_order_filter, kept, kept_names, was_kept}
use Rattle.reg_judge.proofs.Merging.{Rises, in_merged, merged, merged_off, merged_on, rises_merged}
use Rattle.reg_judge.proofs.PartFacts.{answered_down, answered_up, called_down, called_up, finished_called}
use Rattle.reg_judge.proofs.PartFacts.{finished_down, finished_up, is_on, off_register, on_register_is, register_is}
use Rattle.reg_judge.proofs.PartFacts.{some_register}
use Rattle.reg_judge.proofs.SameMemory.{Runs, calls_of, ops_of, right_of, runs_from, runs_part, runs_whole}

-- they are two
abbrev pub Differ : OpId → OpId → Type 0
Differ a b = a ≢ b

pub differ_from : (ids : List OpId) → IsDistinct ids → InOrder Differ ids
differ_from ids distinct i j a b here there lt same =
    let one = distinct i j b (subst (IsAt ids i) same here) there in
    omega (arith, lt, one)

pub distinct_from : (ids : List OpId) → InOrder Differ ids → IsDistinct ids
distinct_from ids differ i j id here there = elim (cases_order i j) [
  | inl same ↦ same
  | inr (inl lt) ↦ absurd (differ i j id id here there lt refl)
  | inr (inr lt) ↦ absurd (differ j i id id there here lt refl)
]

-- the points of operations on the register
abbrev at_register : ℕ → List Entry → List Point → List Point
at_register r h ps = filter (λ p. is_on r h p.id) ps

names_at : (r : ℕ) (h : List Entry) (ps : List Point)
    → map (λ p. p.id) (at_register r h ps) ≡ filter (is_on r h) (map (λ p. p.id) ps)
names_at r h ps = kept_names (λ (p : Point). p.id) (is_on r h) ps

pub legal_from : (registers : ℕ) (h : List Entry) (ids : List OpId) → Runs h (replicate registers 0) ids
    → IsLegal registers h ids
legal_from registers h ids runs = record { ops = ops_of h (replicate registers 0) ids runs; called = calls_of h (replicate registers 0) ids runs; right = right_of h (replicate registers 0) ids runs }

pub runs_by : (registers : ℕ) (h : List Entry) (ids : List OpId) → IsLegal registers h ids
    → Runs h (replicate registers 0) ids
runs_by registers h ids legal = runs_from h (replicate registers 0) ids legal.ops legal.called legal.right

rest_differ : (x : OpId) (xs : List OpId) (b : Bool) → InOrder Differ (cond b (x ∷ xs) xs) → InOrder Differ xs
rest_differ x xs true differ i j a b here there lt = differ (suc i) (suc j) a b here there (omega (arith, lt))
rest_differ x xs false differ i j a b here there lt = differ i j a b here there lt

nothing : {X : Type 0} (k : ℕ) (x : X) → IsAt [] k x → ⊥
nothing k x at = cc

module _ (n registers : ℕ) (h : List Entry) (good : IsHistory n registers h) where
  -- of the whole the points of a register
  part_order : (r : ℕ) → r < registers → (ps : List Point) → IsPointOrder registers h ps → IsPointOrder registers (part_at r h) (at_register r h ps)
  part_order r fits ps order = record {
    selection = record {
      distinct = subst IsDistinct (sym (names_at r h ps)) (distinct_from (filter (is_on r h) ids) (in_order_filter Differ (is_on r h) ids (differ_from ids order.selection.distinct)));
      finished = λ id fin. (
          let up = finished_up r h id fin in
          let there = order.selection.finished id up.0 in
          let found = kept (is_on r h) ids there.0 id there.1 up.1 in
          (found.0, subst (λ (l : List OpId). IsAt l found.0 id) (sym (names_at r h ps)) found.1)
          );
      known = λ k id here. (
          let was = was_kept (is_on r h) ids k id (subst (λ (l : List OpId). IsAt l k id) (names_at r h ps) here) in
          elim (order.selection.known was.0.0 id was.0.1) [
            | inl fin ↦ inl (finished_down r h id fin was.1)
            | inr (at, op, called, up) ↦ inr (at, op, called_down r h id at op called (register_is n registers h good r id at op called was.1), up)
          ]
          );
    };
    legal = legal_from registers (part_at r h) (map (λ p. p.id) (at_register r h ps)) (subst (Runs (part_at r h) (replicate registers 0)) (sym (names_at r h ps)) (runs_part n registers h good r ids (replicate registers 0) (subst (λ (l : ℕ). r < l) (sym (length-replicate registers 0)) fits) (runs_by registers h ids order.legal)));
    called = λ k p at op here was. (let there = was_kept (λ p. is_on r h p.id) ps k p here in order.called there.0.0 p at op there.0.1 (called_up r h p.id at op was).0);
    answered = λ k p at answer here was. (let there = was_kept (λ p. is_on r h p.id) ps k p here in order.answered there.0.0 p at answer there.0.1 (answered_up r h p.id at answer was).0);
    rising = in_order_filter (λ p q. p.at ≤ q.at) (λ p. is_on r h p.id) ps order.rising;
  }
    where
      ids : List OpId
      ids = map (λ p. p.id) ps

  -- an operation is of one register
  off_other : (a b : ℕ) (id : OpId) → WasCalled h id → is_on a h id ≡ true → a ≢ b → is_on b h id ≡ false
  off_other a b id (at, op, called) on apart = off_register n registers h good b id at op called (λ is. apart (sym (register_is n registers h good a id at op called on) ∙ is))

  -- ids of a register are no ids of another
  differ_all : (ids : List OpId) → ((k : ℕ) (id : OpId) → IsAt ids k id → WasCalled h id) → ((r : ℕ) → r < registers → InOrder Differ (filter (is_on r h) ids)) → InOrder Differ ids
  differ_all [] known parts = λ i j a b here. absurd (nothing i a here)
  differ_all (id ∷ ids) known parts =
      in_order_cons Differ id ids first (differ_all ids (λ k x at. known (suc k) x at) (λ r lt. rest_differ id (filter (is_on r h) ids) (is_on r h id) (parts r lt)))
    where
      first : (j : ℕ) (y : OpId) → IsAt ids j y → id ≢ y
      first j y at same =
          let on = some_register n registers h good id (known 0 id refl) in
          let part : InOrder Differ (id ∷ filter (is_on on.0 h) ids) = subst (λ (b : Bool). InOrder Differ (cond b (id ∷ filter (is_on on.0 h) ids) (filter (is_on on.0 h) ids))) on.2 (parts on.0 on.1) in
          let there = kept (is_on on.0 h) ids j y at (ap (is_on on.0 h) (sym same) ∙ on.2) in
          part 0 (suc there.0) id y refl there.1 (omega arith) same

  -- points that rise are of a point order, if those of each register are
  module _ (ps : List Point) (rises : Rises ps) (known : (k : ℕ) (p : Point) → IsAt ps k p → WasCalled h p.id) (parts : (r : ℕ) → r < registers → IsPointOrder registers (part_at r h) (at_register r h ps)) where
    ids : List OpId
    ids = map (λ p. p.id) ps

    known_id : (k : ℕ) (id : OpId) → IsAt (map (λ p. p.id) ps) k id → WasCalled h id
    known_id k id here = let p = at_map (λ (p : Point). p.id) ps k id here in subst (WasCalled h) p.2 (known k p.0 p.1)

    whole_order : IsPointOrder registers h ps
    whole_order = record {
      selection = record {
        distinct = distinct_from (map (λ p. p.id) ps) (differ_all (map (λ p. p.id) ps) known_id (λ r lt. differ_from (filter (is_on r h) (map (λ p. p.id) ps)) (subst IsDistinct (names_at r h ps) (parts r lt).selection.distinct)));
        finished = λ id fin. (
            let on = some_register n registers h good id (finished_called n registers h good id fin) in
            let there = (parts on.0 on.1).selection.finished id (finished_down on.0 h id fin on.2) in
            (was_kept (is_on on.0 h) (map (λ p. p.id) ps) there.0 id (subst (λ (l : List OpId). IsAt l there.0 id) (names_at on.0 h ps) there.1)).0
            );
        known = λ k id here. (
            let on = some_register n registers h good id (known_id k id here) in
            let there = kept (is_on on.0 h) (map (λ p. p.id) ps) k id here on.2 in
            elim ((parts on.0 on.1).selection.known there.0 id (subst (λ (l : List OpId). IsAt l there.0 id) (sym (names_at on.0 h ps)) there.1)) [
              | inl fin ↦ inl (finished_up on.0 h id fin).0
              | inr (at, op, called, up) ↦ inr (at, op, (called_up on.0 h id at op called).0, up)
            ]
            );
      };
      legal = legal_from registers h (map (λ p. p.id) ps) (runs_whole n registers h good (map (λ p. p.id) ps) (replicate registers 0) (length-replicate registers 0) known_id (λ r lt. subst (Runs (part_at r h) (replicate registers 0)) (names_at r h ps) (runs_by registers (part_at r h) (map (λ p. p.id) (at_register r h ps)) (parts r lt).legal)));
      called = λ k p at op here was. (
          let on = some_register n registers h good p.id (known k p here) in
          let there = kept (λ p. is_on on.0 h p.id) ps k p here on.2 in
          (parts on.0 on.1).called there.0 p at op there.1 (called_down on.0 h p.id at op was (register_is n registers h good on.0 p.id at op was on.2))
          );
      answered = λ k p at answer here was. (
          let on = some_register n registers h good p.id (known k p here) in
          let there = kept (λ p. is_on on.0 h p.id) ps k p here on.2 in
          (parts on.0 on.1).answered there.0 p at answer there.1 (answered_down on.0 h p.id at answer was on.2)
          );
      rising = rises;
    }

  -- points of the registers below this one that rise, and are in an order of each
  record AreMerged (k : ℕ) (ps : List Point) : Type 0 where
    rises : Rises ps
    known : (i : ℕ) (p : Point) → IsAt ps i p → WasCalled h p.id × ((r : ℕ) × (r < k) × (is_on r h p.id ≡ true))
    each : (r : ℕ) → r < k → IsPointOrder registers (part_at r h) (at_register r h ps)

  -- with those of one register more
  module _ (k : ℕ) (ps : List Point) (are : AreMerged k ps) (qs : List Point) (order : IsPointOrder registers (part_at k h) qs) where
    -- each is of an operation on this register
    is_here : (i : ℕ) (p : Point) → IsAt qs i p → WasCalled h p.id × (is_on k h p.id ≡ true)
    is_here i p at = elim (order.selection.known i p.id (IsAt-map (λ (p : Point). p.id) qs i p at)) [
      | inl fin ↦ let up = finished_up k h p.id fin in (finished_called n registers h good p.id up.0, up.1)
      | inr (s, op, called, _) ↦ let up = called_up k h p.id s op called in ((s, op, up.0), on_register_is k h p.id (s, op, up.0, up.1))
    ]

    here : at_register k h (merged qs ps) ≡ qs
    here = merged_on (λ p. is_on k h p.id) qs ps order.rising (λ i p at. (is_here i p at).1) (λ i p at. (let was = are.known i p at in let lt = was.1.1 in off_other was.1.0 k p.id was.0 was.1.2 (λ e. omega (arith, e, lt))))

    below : (r : ℕ) → r < k → at_register r h (merged qs ps) ≡ at_register r h ps
    below r lt = merged_off (λ p. is_on r h p.id) qs ps (λ i p at. (let is = is_here i p at in off_other k r p.id is.0 is.1 (λ e. omega (arith, e, lt))))

    more_known : (i : ℕ) (p : Point) → IsAt (merged qs ps) i p → WasCalled h p.id × ((r : ℕ) × (r < suc k) × (is_on r h p.id ≡ true))
    more_known i p at = elim (in_merged p qs ps i at) [
      | inl (j, new) ↦ let is = is_here j p new in (is.0, (k, omega arith, is.1))
      | inr (j, old) ↦ let was = are.known j p old in let lt = was.1.1 in (was.0, (was.1.0, omega (arith, lt), was.1.2))
    ]

    more_each : (r : ℕ) → r < suc k → (r ≡ k) ⊎ (r ≡ k → ⊥) → IsPointOrder registers (part_at r h) (at_register r h (merged qs ps))
    more_each r lt (inl same) = subst (λ (x : ℕ). IsPointOrder registers (part_at x h) (at_register x h (merged qs ps))) (sym same) (subst (IsPointOrder registers (part_at k h)) (sym here) order)
    more_each r lt (inr apart) = let less : r < k = omega (arith, lt, apart) in subst (IsPointOrder registers (part_at r h)) (sym (below r less)) (are.each r less)

    one_more : AreMerged (suc k) (merged qs ps)
    one_more = record { rises = rises_merged qs ps are.rises; known = more_known; each = λ r lt. more_each r lt (cases_eq r k) }

  all_merged : ((r : ℕ) → r < registers → HasPointOrder registers (part_at r h)) → (k : ℕ) → k ≤ registers → (ps : List Point) × AreMerged k ps
  all_merged parts zero le = ([], record { rises = λ i j p q at. absurd (nothing i p at); known = λ i p at. absurd (nothing i p at); each = λ r lt. absurd (omega (arith, lt)) })
  all_merged parts (suc k) le =
      let before = all_merged parts k (omega (arith, le)) in
      let part = parts k (omega (arith, le)) in
      (merged part.0 before.0, one_more k before.0 before.1 part.0 part.1)

  pub each_by_itself : HasPointOrder registers h → (r : ℕ) → r < registers → HasPointOrder registers (part_at r h)
  each_by_itself (ps, order) r fits = (at_register r h ps, part_order r fits ps order)

  pub all_together : ((r : ℕ) → r < registers → HasPointOrder registers (part_at r h)) → HasPointOrder registers h
  all_together parts = let all = all_merged parts registers (omega arith) in (all.0, whole_order all.0 all.1.rises (λ i p at. (all.1.known i p at).0) all.1.each)
