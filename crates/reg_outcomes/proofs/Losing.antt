-- Where a value is lost that is needed still, no order goes on.
use Rattle.std.proofs.Common.{◌≡◌, ◌≢◌, ◌⊎◌, inl, inr, ℕ, ◌+◌, ◌<◌, ◌≤◌, zero, suc, cond, Bool, true, false, List, []}
use Rattle.std.proofs.Common.{◌∷◌, length, Option, Some, IfSome, Result, Ok, Err, OnOk, refl, ap, sym, ◌∙◌, subst}
use Rattle.std.proofs.Common.{arith, get_or-set_same, get_or-set_other}
use Rattle.std.specs.Prelude.{◌==◌, if◌then◌else◌, slice_index, slice_set}
use Rattle.std.specs.BTreeMap.{Updates, get, is_at}
use Rattle.std.specs.declared.cmp.Ordering.{Ordering}
use Rattle.std.specs.declared.cmp.Ordering.TheVariants.{Less, Equal, Greater}
use Rattle.std.specs.Ordering.{is_eq, nat_cmp}
use Rattle.std.proofs.lemmas.Bool.{cases_Bool, cases_eq, cases_lt}
use Rattle.std.proofs.lemmas.List.{set_past}
use Rattle.std.proofs.lemmas.Map.Lookups.{exact_unsigned, exact_pairs}
use Rattle.std.proofs.lemmas.Option.{same_Some}
use Rattle.reg_base.specs.declared.memory.Op.{Op}
use Rattle.reg_base.specs.declared.memory.Op.TheVariants.{Read, Write, Swap, CompareAndSwap}
use Rattle.reg_base.specs.Memory.{after, answer_of, register_of}
use Rattle.reg_checkers.specs.declared.entries.Entry.{Entry}
use Rattle.reg_checkers.specs.declared.entries.Entry.TheVariants.{Answered, Called}
use Rattle.reg_checkers.specs.History.{IsAnswered, IsAt, IsCalled, IsHistory}
use Rattle.reg_checkers.specs.Progress.{op_of}
use Rattle.reg_checkers.proofs.Histories.{call_is}
use Rattle.reg_checkers.proofs.Places.{same_at}
use Rattle.reg_outcomes.specs.declared.orders.kinds.OrderKind.{OrderKind}
use Rattle.reg_outcomes.specs.declared.orders.uses.Uses.{Uses}
use Rattle.reg_outcomes.specs.Interleavings.{Stage}
use Rattle.reg_outcomes.specs.Losing.{AreMakersTo, AreUses, HasNoLater, IsAsker, IsAtLeast, IsLost, IsMakerNoted, Key}
use Rattle.reg_outcomes.specs.Losing.{Lasts, made_of, use_cmp, value_cmp}
use Rattle.reg_outcomes.specs.Placing.{IsPlaced}
use Rattle.reg_outcomes.specs.Walking.{Ends, Goes, On}
use Rattle.reg_outcomes.proofs.Placed.{in_bounds}
use Rattle.reg_outcomes.proofs.Walking.{grows}

-- keys that compare as equal are equal
is_key : (a b : Key) → is_at (use_cmp a) b ≡ true → a ≡ b
is_key a b h = exact_pairs nat_cmp value_cmp exact_unsigned (exact_pairs nat_cmp nat_cmp exact_unsigned exact_unsigned) a b (tied (use_cmp a b) h)
  where
    tied : (o : Ordering) → is_eq o ≡ true → o ≡ Equal
    tied Less h = absurd cc
    tied Equal h = refl
    tied Greater h = absurd cc

module _ (old new : Lasts) (key : Key) (number later : ℕ) (updates : Updates use_cmp old new key (Some later)) (o : Option ℕ) (is_old : o ≡ get use_cmp old key) where
  pub put_noted : number ≤ later → IsAtLeast new key number
  put_noted le = (later, updates.1, le)

  pub put_kept : IfSome o (λ last. last ≤ later) → (q : Key) (v : ℕ) → IsAtLeast old q v → IsAtLeast new q v
  put_kept above q v (last, had, less) = elim (cases_Bool (is_at (use_cmp key) q)) [
    | inl at ↦ (
      later,
      updates.0 q ∙ ap (λ b. cond b (Some later) (get use_cmp old q)) at,
      (let le : last ≤ later = subst (λ (x : Option ℕ). IfSome x (λ m. m ≤ later)) (is_old ∙ ap (get use_cmp old) (is_key key q at) ∙ had) above in omega (arith, le, less)),
    )
    | inr not ↦ (last, updates.0 q ∙ ap (λ b. cond b (Some later) (get use_cmp old q)) not ∙ had, less)
  ]

  pub put_only : (later ≡ number) ⊎ (o ≡ Some later) → (q : Key) (v : ℕ) → get use_cmp new q ≡ Some v
      → (get use_cmp old q ≡ Some v) ⊎ ((q ≡ key) × (v ≡ number))
  put_only one_of q v is = elim (cases_Bool (is_at (use_cmp key) q)) [
    | inl at ↦
        let value : v ≡ later = same_Some v later (sym is ∙ updates.0 q ∙ ap (λ b. cond b (Some later) (get use_cmp old q)) at) in
        elim one_of [
          | inl same ↦ inr (sym (is_key key q at), value ∙ same)
          | inr was ↦ inl (ap (get use_cmp old) (sym (is_key key q at)) ∙ sym is_old ∙ was ∙ ap Some (sym value))
        ]
    | inr not ↦ inl (sym (ap (λ b. cond b (Some later) (get use_cmp old q)) not) ∙ sym (updates.0 q) ∙ is)
  ]

-- one that needs a value
pub asker_noted : {T E : Type 0} (h : List Entry) (old new : Lasts) (key : Key) (number : ℕ) (r : Result T E)
    → IsAsker h key number
    → OnOk r
    ((q : Key) (v : ℕ) → get use_cmp new q ≡ Some v → (get use_cmp old q ≡ Some v) ⊎ ((q ≡ key) × (v ≡ number)))
    → OnOk r ((q : Key) (v : ℕ) → get use_cmp new q ≡ Some v → (get use_cmp old q ≡ Some v) ⊎ IsAsker h q v)
asker_noted h old new key number (Err e) asker only = tt
asker_noted h old new key number (Ok t) asker only = λ q v is. elim (only q v is) [
  | inl was ↦ inl was
  | inr (own, same) ↦ inr (subst (λ (x : Key). IsAsker h x v) (sym own) (subst (λ (m : ℕ). IsAsker h key m) (sym same) asker))
]

-- one entry more
pub makers_more : (h l : List Entry) → l ≡ h → (k : ℕ) (e : Entry) (old new : Lasts) → IsAt l k e → IsMakerNoted new e
    → ((q : Key) (v : ℕ) → IsAtLeast old q v → IsAtLeast new q v) → AreMakersTo k h old → AreMakersTo (k + 1) h new
makers_more h l same k e old new here noted kept before j x lt there = elim (cases_eq j k) [
  | inl is ↦ subst (IsMakerNoted new) (same_at h k e x (subst (λ (es : List Entry). IsAt es k e) same here) (subst (λ (i : ℕ). IsAt h i x) is there)) noted
  | inr not ↦ still x (before j x (omega (arith, lt, not)) there)
]
  where
    still : (y : Entry) → IsMakerNoted old y → IsMakerNoted new y
    still (Called at id op) was = λ v is. kept (id.process, (register_of op, v)) id.number (was v is)
    still (Answered at id answer) was = tt

-- a value that is not made does not come
stays_put : (m : List ℕ) (q r v u : ℕ) → (q ≡ r → v ≡ u → ⊥) → slice_index m r ≢ u → slice_index (slice_set m q v) r ≢ u
stays_put m q r v u never gone is = elim (cases_eq r q) [
  | inl same ↦ elim (cases_lt r (length m)) [
    | inl inside ↦
        let here : slice_index (slice_set m q v) r ≡ v = ap (λ (i : ℕ). slice_index (slice_set m i v) r) (sym same) ∙ get_or-set_same m r v 0 inside in
        never (sym same) (sym here ∙ is)
    | inr past ↦
        let none : slice_set m q v ≡ m = ap (λ (i : ℕ). slice_set m i v) (sym same) ∙ set_past m r v past in
        gone (ap (λ (l : List ℕ). slice_index l r) (sym none) ∙ is)
  ]
  | inr away ↦ gone (sym (get_or-set_other m q r v 0 away) ∙ is)
]

pub stays : (op : Op) (m : List ℕ) (r u : ℕ) → (register_of op ≡ r → made_of op ≡ Some u → ⊥) → slice_index m r ≢ u
    → slice_index (after op m) r ≢ u
stays (Read q) m r u never gone = gone
stays (Write q v) m r u never gone = stays_put m q r v u (λ a b. never a (ap Some b)) gone
stays (Swap q v) m r u never gone = stays_put m q r v u (λ a b. never a (ap Some b)) gone
stays (CompareAndSwap q e v) m r u never gone = by_test (slice_index m q == e)
  where
    by_test : (b : Bool) → slice_index (if b then slice_set m q v else m) r ≢ u
    by_test true = stays_put m q r v u (λ a b. never a (ap Some b)) gone
    by_test false = gone

-- what is put at a place is no more than it
at_most : (l : List ℕ) (i v : ℕ) → slice_index l i ≤ v → slice_index (slice_set l i v) i ≤ v
at_most [] i v le = le
at_most (x ∷ l) zero v le = omega arith
at_most (x ∷ l) (suc i) v le = at_most l i v le

module _ {A : Type 0} (kind : OrderKind) (n registers : ℕ) (h : List Entry) (good : IsHistory n registers h) (uses : Uses A) (are : AreUses h uses) (value : ℕ × ℕ) where
  -- no operation that is not placed makes the value
  none_makes : (s : Stage) → HasNoLater uses.makers s.next n value → (q : ℕ) (t : Stage) (step : IsPlaced kind h q s t) → register_of step.op ≡ value.0 → made_of step.op ≡ Some value.1 → ⊥
  none_makes s no_more q t step own is =
      let noted = are.makers step.called.0 (Called step.at (op_of q (slice_index s.next q)) step.op) step.called.1 value.1 is in
      let told : get use_cmp uses.makers (q, value) ≡ Some noted.0 = ap (λ (r : ℕ). get use_cmp uses.makers (q, (r, value.1))) (sym own) ∙ noted.1 in
      let inside = (in_bounds kind n registers h good (op_of q (slice_index s.next q)) step.at step.op step.called).0 in
      let less = no_more q noted.0 inside told in
      let le = noted.2 in
      omega (arith, less, le)

  -- the operation that needs it is not the next one
  not_next : (s : Stage) (p last : ℕ) → IsAsker h (p, value) last → slice_index s.memory value.0 ≢ value.1 → (t : Stage) → IsPlaced kind h p s t → slice_index s.next p ≡ last → ⊥
  not_next s p last (op, at, given, answered, called, answer, asks) gone t step same =
      let here : step.op ≡ op = (call_is n registers h good (op_of p last) step.at at step.op op (subst (λ (m : ℕ). IsCalled h (op_of p m) step.at step.op) same step.called) called).1 in
      let told : given ≡ answer_of step.op s.memory = step.comes.0 answered given (subst (λ (m : ℕ). IsAnswered h (op_of p m) answered given) (sym same) answer) in
      gone (asks s.memory (ap (λ (o : Op). answer_of o s.memory) (sym here) ∙ sym told))

  -- and so is placed later
  later : (s : Stage) (p last : ℕ) → IsAsker h (p, value) last → slice_index s.memory value.0 ≢ value.1 → slice_index s.next p ≤ last → (q : ℕ) (t : Stage) → IsPlaced kind h q s t → slice_index t.next p ≤ last
  later s p last asker gone le q t step = subst (λ (l : List ℕ). slice_index l p ≤ last) (sym (ap (λ (x : Stage). x.next) step.stage)) (elim (cases_eq p q) [
    | inl own ↦
        let other : slice_index s.next p ≢ last = not_next s p last asker gone t (subst (λ (m : ℕ). IsPlaced kind h m s t) (sym own) step) in
        let most = at_most s.next p (slice_index s.next p + 1) (omega arith) in
        subst (λ (m : ℕ). slice_index (slice_set s.next m (slice_index s.next m + 1)) p ≤ last) own (omega (arith, most, other, le))
    | inr away ↦ let e = get_or-set_other s.next q p (slice_index s.next q + 1) 0 away in omega (arith, e, le)
  ])

  lost : (s : Stage) (p last : ℕ) → IsAsker h (p, value) last → slice_index s.next p ≤ last → HasNoLater uses.makers s.next n value → slice_index s.memory value.0 ≢ value.1 → Goes kind h s → ⊥
  lost s p last asker le no_more gone (Ends complete) = let less : last < slice_index s.next p = complete (op_of p last) (asker.3, asker.2, asker.5) in omega (arith, less, le)
  lost s p last asker le no_more gone (On q t step go) =
      lost t p last asker (later s p last asker gone le q t step)
      (subst (λ (l : List ℕ). HasNoLater uses.makers l n value) (sym (ap (λ (x : Stage). x.next) step.stage)) (λ m number inside told. let less = no_more m number inside told in let more = grows s.next q m in omega (arith, less, more)))
      (subst (λ (m : List ℕ). slice_index m value.0 ≢ value.1) (sym (ap (λ (x : Stage). x.memory) step.stage)) (stays step.op s.memory value.0 value.1 (none_makes s no_more q t step) gone))
      go

  pub lost_is : (s : Stage) → IsLost uses s n value → ¬ Goes kind h s
  lost_is s is go = lost s is.needed.0 is.needed.1 (are.askers (is.needed.0, value) is.needed.1 is.needed.2) is.needed.3 is.last is.gone go
