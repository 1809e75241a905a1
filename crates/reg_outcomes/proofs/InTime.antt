-- Whether an order keeps real time, entry by entry.
use Rattle.std.proofs.Common.{◌≡◌, ◌≢◌, ◌⊎◌, inl, inr, ℕ, zero, suc, ◌+◌, ◌<◌, ◌≤◌, Bool, true, false, cond, max, List}
use Rattle.std.proofs.Common.{[], ◌∷◌, ◌++◌, length, take, Option, Some, None, get_or, refl, ap, sym, ◌∙◌, subst, arith}
use Rattle.std.proofs.Common.{length-take}
use Rattle.std.specs.Prelude.{nat_lt, IfSome, ◌^◌, ◌-◌}
use Rattle.std.specs.declared.cmp.Ordering.{Ordering}
use Rattle.std.specs.declared.cmp.Ordering.TheVariants.{Less, Equal, Greater}
use Rattle.std.specs.Ordering.{nat_cmp, is_eq}
use Rattle.std.specs.Cmp.{IsTotalOrder}
use Rattle.std.specs.BTreeMap.{BTreeMap, get, Updates, is_at}
use Rattle.std.proofs.lemmas.Bool.{cases_Bool, cases_order, false≢true, ltb-true, ltb-false}
use Rattle.std.proofs.lemmas.Option.{same_Some, slice_get_within}
use Rattle.std.proofs.lemmas.Cmp.{nat_cmp_total, on_total, then_total, tied_itself}
use Rattle.std.proofs.lemmas.Map.Lookups.{exact_unsigned, exact_pairs}
use Rattle.reg_base.specs.declared.memory.OpId.{OpId}
use Rattle.reg_base.specs.declared.memory.Answer.{Answer}
use Rattle.reg_base.specs.declared.memory.Op.{Op}
use Rattle.reg_checkers.specs.declared.entries.Entry.{Entry}
use Rattle.reg_checkers.specs.declared.entries.Entry.TheVariants.{Called, Answered}
use Rattle.reg_checkers.specs.History.{IsAt, IsHistory}
use Rattle.reg_checkers.specs.Orders.{IsDistinct}
use Rattle.reg_checkers.proofs.Histories.{events_rise}
use Rattle.reg_checkers.proofs.Places.{get_push_other, in_take, same_at}
use Rattle.reg_outcomes.proofs.Elements.{take_at}
use Rattle.reg_outcomes.proofs.Those.{at_front, at_new, at_cases}
use Rattle.reg_world.specs.RealTime.{KeepsRealTime}
use Rattle.reg_outcomes.specs.Timing.{id_cmp, IsPlaceOf, called_bound, answered_bound, bound_next, IsInTime}

ids_total : IsTotalOrder id_cmp
ids_total = then_total (on_total (λ i. i.process) nat_cmp_total) (on_total (λ i. i.number) nat_cmp_total)

equal_is : (a b : OpId) → is_eq (id_cmp a b) ≡ true → a ≡ b
equal_is a b h = ap (λ (p : ℕ × ℕ). record { process = p.0; number = p.1 }) (exact_pairs nat_cmp nat_cmp exact_unsigned exact_unsigned (a.process, a.number) (b.process, b.number) (tied (id_cmp a b) h))
  where
    tied : (o : Ordering) → is_eq o ≡ true → o ≡ Equal
    tied Less h = absurd cc
    tied Equal h = refl
    tied Greater h = absurd cc

place_still : (ids : List OpId) (x id : OpId) (o : Option ℕ) → id ≢ x → IsPlaceOf ids id o
    → IsPlaceOf (ids ++ x ∷ []) id o
place_still ids x id None other none =
    λ k h. elim (at_cases ids x k id h) [ inl old ↦ none k old | inr new ↦ other (sym new) ]
place_still ids x id (Some place) other at = at_front ids (x ∷ []) place id at

-- one operation more has its place
pub place_next : (ids : List OpId) (x : OpId) (old new : BTreeMap OpId ℕ) → Updates id_cmp old new x (Some (length ids))
    → ((id : OpId) → IsPlaceOf ids id (get id_cmp old id)) → (id : OpId)
    → IsPlaceOf (ids ++ x ∷ []) id (get id_cmp new id)
place_next ids x old new updates places id = elim (cases_Bool (is_at (id_cmp x) id)) [
  | inl at ↦
      let same : x ≡ id = equal_is x id at in
      let found : get id_cmp new id ≡ Some (length ids) = updates.0 id ∙ ap (λ b. cond b (Some (length ids)) (get id_cmp old id)) at in
      subst (λ o. IsPlaceOf (ids ++ x ∷ []) id o) (sym found) (subst (λ (y : OpId). IsAt (ids ++ x ∷ []) (length ids) y) same (at_new ids x))
  | inr at ↦
      let found : get id_cmp new id ≡ get id_cmp old id = updates.0 id ∙ ap (λ b. cond b (Some (length ids)) (get id_cmp old id)) at in
      subst (λ o. IsPlaceOf (ids ++ x ∷ []) id o) (sym found)
      (place_still ids x id (get id_cmp old id) (λ e. false≢true (sym at ∙ (ap (λ y. is_eq (id_cmp x y)) e ∙ ap is_eq (tied_itself ids_total x)))) (places id))
]

pub place_step : (order : List OpId) (n : ℕ) (x : OpId) (old new : BTreeMap OpId ℕ) → Updates id_cmp old new x (Some n)
    → IsAt order n x → ((id : OpId) → IsPlaceOf (take n order) id (get id_cmp old id)) → (id : OpId)
    → IsPlaceOf (take (n + 1) order) id (get id_cmp new id)
place_step order n x old new updates here places id =
    let lt : n < length order = slice_get_within order n x here in
    let many : n ≡ length (take n order) = omega (arith, length-take n order, lt) in
    subst (λ (l : List OpId). IsPlaceOf l id (get id_cmp new id)) (sym (take_at order n x here))
    (place_next (take n order) x old new (subst (λ (m : ℕ). Updates id_cmp old new x (Some m)) many updates) places id)

module _ (es : List Entry) (ids : List OpId) (distinct : IsDistinct ids) (place : OpId → Option ℕ) (places : (id : OpId) → IsPlaceOf ids id (place id)) (bound : ℕ) (told : IsInTime es ids bound) where
  -- an id that stands at a place has that place
  is_placed : (id : OpId) (i : ℕ) (o : Option ℕ) → IsAt ids i id → IsPlaceOf ids id o → o ≡ Some i
  is_placed id i None here none = absurd (none i here)
  is_placed id i (Some p) here at = ap Some (distinct p i id at here)

  placed : (id : OpId) (i : ℕ) → IsAt ids i id → place id ≡ Some i
  placed id i here = is_placed id i (place id) here (places id)

  within_front : (e y : Entry) (k l : ℕ) (z : Entry) → k < l → IsAt es l z → IsAt (es ++ e ∷ []) k y → IsAt es k y
  within_front e y k l z lt at h = let n : l < length es = slice_get_within es l z at in sym (get_push_other es k e (λ q. omega (arith, q))) ∙ h

  -- a call
  not_behind : (o : Option ℕ) (p next : ℕ) → o ≡ Some p → called_bound o bound ≡ Some next → bound ≤ p
  not_behind None p next is h = absurd cc
  not_behind (Some q) p next is h = elim (cases_Bool (nat_lt q bound)) [
    | inl lt ↦ absurd (none (sym (ap (λ b. cond b None (Some bound)) lt) ∙ h))
    | inr ge ↦ let e : q ≡ p = same_Some q p is in let l = ltb-false q bound ge in omega (arith, l, e)
  ]
    where
      none : None ≡ Some next → ⊥
      none e = absurd cc

  same_bound : (o : Option ℕ) (next : ℕ) → called_bound o bound ≡ Some next → next ≡ bound
  same_bound None next h = sym (same_Some bound next h)
  same_bound (Some q) next h = go (nat_lt q bound) h
    where
      go : (b : Bool) → cond b None (Some bound) ≡ Some next → next ≡ bound
      go true e = absurd cc
      go false e = sym (same_Some bound next e)

  in_time_called : (at : ℕ) (id : OpId) (op : Op) (next : ℕ) → called_bound (place id) bound ≡ Some next → IsInTime (es ++ Called at id op ∷ []) ids bound
  in_time_called at id op next is = record {
    above = λ k i s a answer h here. elim (at_cases es (Called at id op) k (Answered s a answer) h) [
      | inl old ↦ told.above k i s a answer old here
      | inr new ↦ absurd cc
    ];
    tight = elim told.tight [
      | inl e ↦ inl e
      | inr (k, i, s, a, answer, h, here, e) ↦ inr (k, i, s, a, answer, at_front es (Called at id op ∷ []) k (Answered s a answer) h, here, e)
    ];
    kept = λ k l i j s t a b answer p h g lt x y. elim (at_cases es (Called at id op) k (Answered s a answer) h) [
      | inl front ↦ elim (at_cases es (Called at id op) l (Called t b p) g) [
        | inl old ↦ told.kept k l i j s t a b answer p front old lt x y
        | inr new ↦
            let same : id ≡ b = cc in
            let behind : bound ≤ j = not_behind (place id) j next (placed id j (subst (λ (z : OpId). IsAt ids j z) (sym same) y)) is in
            let less : i < bound = told.above k i s a answer front x in
            omega (arith, behind, less)
      ]
      | inr new ↦ absurd cc
    ];
  }

  -- an answer
  no_less : (o : Option ℕ) → bound ≤ answered_bound o bound
  no_less None = omega arith
  no_less (Some p) = omega arith

  behind_it : (o : Option ℕ) (i : ℕ) → o ≡ Some i → i < answered_bound o bound
  behind_it None i h = absurd cc
  behind_it (Some p) i h = let e : p ≡ i = same_Some p i h in omega (arith, e)

  in_time_answered : (at : ℕ) (id : OpId) (answer : Answer) → IsInTime (es ++ Answered at id answer ∷ []) ids (answered_bound (place id) bound)
  in_time_answered at id answer = record {
    above = λ k i s a x h here. elim (at_cases es (Answered at id answer) k (Answered s a x) h) [
      | inl old ↦ let less : i < bound = told.above k i s a x old here in let more = no_less (place id) in omega (arith, less, more)
      | inr new ↦ let same : id ≡ a = cc in behind_it (place id) i (placed id i (subst (λ (z : OpId). IsAt ids i z) (sym same) here))
    ];
    tight = tight (place id) (places id);
    kept = λ k l i j s t a b x op h g lt y z. elim (at_cases es (Answered at id answer) l (Called t b op) g) [
      | inl old ↦ told.kept k l i j s t a b x op (within_front (Answered at id answer) (Answered s a x) k l (Called t b op) lt old h) old lt y z
      | inr new ↦ absurd cc
    ];
  }
    where
      front : (bound ≡ 0) ⊎ ((k : ℕ) × (i : ℕ) × (s : ℕ) × (a : OpId) × (x : Answer) × IsAt es k (Answered s a x) × IsAt ids i a × (suc i ≡ bound))
          → (n : ℕ) → n ≡ bound → (n ≡ 0) ⊎ ((k : ℕ) × (i : ℕ) × (s : ℕ) × (a : OpId) × (x : Answer) × IsAt (es ++ Answered at id answer ∷ []) k (Answered s a x) × IsAt ids i a × (suc i ≡ n))
      front (inl e) n is = inl (is ∙ e)
      front (inr (k, i, s, a, x, h, here, e)) n is = inr (k, i, s, a, x, at_front es (Answered at id answer ∷ []) k (Answered s a x) h, here, e ∙ sym is)

      tight : (o : Option ℕ) → IsPlaceOf ids id o → (answered_bound o bound ≡ 0) ⊎ ((k : ℕ) × (i : ℕ) × (s : ℕ) × (a : OpId) × (x : Answer) × IsAt (es ++ Answered at id answer ∷ []) k (Answered s a x) × IsAt ids i a × (suc i ≡ answered_bound o bound))
      tight None none = front told.tight bound refl
      tight (Some p) here = elim (cases_order bound (p + 1)) [
        | inl e ↦ inr (length es, p, at, id, answer, at_new es (Answered at id answer), here, omega (arith, e))
        | inr (inl lt) ↦ inr (length es, p, at, id, answer, at_new es (Answered at id answer), here, omega (arith, lt))
        | inr (inr gt) ↦ front told.tight (max bound (p + 1)) (omega (arith, gt))
      ]

  pub in_time_next : (e : Entry) (next : ℕ) → Some next ≡ bound_next place bound e → IsInTime (es ++ e ∷ []) ids next
  in_time_next (Called at id op) next is = subst (λ n. IsInTime (es ++ Called at id op ∷ []) ids n) (sym (same_bound (place id) next (sym is))) (in_time_called at id op next (sym is))
  in_time_next (Answered at id answer) next is = subst (λ n. IsInTime (es ++ Answered at id answer ∷ []) ids n) (sym (same_Some next (answered_bound (place id) bound) is)) (in_time_answered at id answer)

-- the element at a place
pub at_get : {X : Type 0} (xs : List X) (k : ℕ) (d : X) → k < length xs → IsAt xs k (get_or xs k d)
at_get [] k d lt = absurd (omega arith)
at_get (x ∷ xs) zero d lt = refl
at_get (x ∷ xs) (suc k) d lt = at_get xs k d (omega arith)

-- a call that stands before what was answered earlier
module _ (n registers : ℕ) (h : List Entry) (good : IsHistory n registers h) (ids : List OpId) where
  pub late : (m : ℕ) (e : Entry) (place : OpId → Option ℕ) (bound : ℕ) → ((id : OpId) → IsPlaceOf ids id (place id))
      → IsInTime (take m h) ids bound → IsAt h m e → None ≡ bound_next place bound e → ¬ KeepsRealTime h ids
  late m (Answered at id answer) place bound places told here is keeps = absurd cc
  late m (Called at id op) place bound places told here is keeps = go (place id) (places id) is
    where
      broken : (p : ℕ) → IsAt ids p id → p < bound → ⊥
      broken p stands lt = elim told.tight [
        | inl none ↦ omega (arith, none, lt)
        | inr (k, i, s, a, answer, found, first, e) ↦
            let before : s < at = (good m (Called at id op) here).later k (Answered s a answer) found in
            let behind : i < p = keeps i p a id first stands (s, at, answer, op, (k, (in_take h m k (Answered s a answer) found).1), (m, here), before) in
            omega (arith, e, lt, behind)
      ]

      go : (o : Option ℕ) → IsPlaceOf ids id o → None ≡ called_bound o bound → ⊥
      go None none e = absurd cc
      go (Some p) stands e = elim (cases_Bool (nat_lt p bound)) [
        | inl lt ↦ broken p stands (ltb-true p bound lt)
        | inr ge ↦ some (e ∙ ap (λ b. cond b None (Some bound)) ge)
      ]
        where
          some : None ≡ Some bound → ⊥
          some e = absurd cc

  -- one entry more
  pub in_time_step : (m : ℕ) (e : Entry) (place : OpId → Option ℕ) (bound next : ℕ) → IsDistinct ids
      → ((id : OpId) → IsPlaceOf ids id (place id)) → IsInTime (take m h) ids bound
      → Some next ≡ bound_next place bound e → IsAt h m e
      → IsInTime (take (m + 1) h) ids next
  in_time_step m e place bound next distinct places told is here =
      subst (λ (es : List Entry). IsInTime es ids next) (sym (take_at h m e here)) (in_time_next (take m h) ids distinct place places bound told e next is)

  -- nothing is late
  pub in_time : (bound : ℕ) → IsInTime h ids bound → KeepsRealTime h ids
  in_time bound told i j a b first second (s, t, answer, op, (k, at1), (l, at2), lt) = elim (cases_order k l) [
    | inl e ↦ apart (same_at h l (Answered s a answer) (Called t b op) (subst (λ (x : ℕ). IsAt h x (Answered s a answer)) e at1) at2)
    | inr (inl less) ↦ told.kept k l i j s t a b answer op at1 at2 less first second
    | inr (inr more) ↦ let le : t ≤ s = events_rise n registers h good l k (Called t b op) (Answered s a answer) at2 at1 more in absurd (omega (arith, le, lt))
  ]
    where
      apart : Answered s a answer ≡ Called t b op → i < j
      apart e = absurd cc

-- places are within their type
pub few_places : (ids : List OpId) (o : Option ℕ) (id : OpId) → length ids < 2 ^ 64 → IsPlaceOf ids id o
    → IfSome o (λ place. place < 2 ^ 64 - 1)
few_places ids None id few h = tt
few_places ids (Some p) id few h = let l : p < length ids = slice_get_within ids p id h in omega (arith, l, few)

-- what is not so is not said
pub never : {P : Type 0} → ¬ P → (false ≡ true → P) × (P → false ≡ true)
never h = (λ e. absurd (false≢true e), λ p. absurd (h p))
