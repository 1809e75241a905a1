-- What an operation might have answered instead: a value that the last change before its call left, or a later one.
use Rattle.std.proofs.Common.{◌≡◌, ◌⊎◌, inl, inr, ℕ, zero, suc, ◌<◌, ◌≤◌, List, [], ◌∷◌, ◌++◌, Option, Some, None}
use Rattle.std.proofs.Common.{MatchOption, length, map, replicate, take, refl, ap, sym, ◌∙◌, subst, arith}
use Rattle.std.specs.Prelude.{slice_index}
use Rattle.std.specs.Option.{unwrap_or}
use Rattle.std.proofs.lemmas.Bool.{cases_order}
use Rattle.std.proofs.lemmas.Option.{same_Some}
use Rattle.reg_base.specs.declared.memory.OpId.{OpId}
use Rattle.reg_base.specs.declared.memory.Op.{Op}
use Rattle.reg_base.specs.declared.memory.Op.TheVariants.{Read, Write, Swap, CompareAndSwap}
use Rattle.reg_base.specs.declared.memory.Answer.{Answer}
use Rattle.reg_base.specs.declared.memory.Answer.TheVariants.{Done, Value, Unequal}
use Rattle.reg_base.specs.Memory.{Memory, after, answer_of, register_of}
use Rattle.reg_base.proofs.Operations.{length-after}
use Rattle.reg_checkers.specs.declared.entries.Entry.{Entry}
use Rattle.reg_checkers.specs.declared.entries.Entry.TheVariants.{Called, Answered}
use Rattle.reg_checkers.specs.declared.entries.Point.{Point}
use Rattle.reg_checkers.specs.declared.facts.Fact.{Fact}
use Rattle.reg_checkers.specs.declared.facts.Given.{Given}
use Rattle.reg_checkers.specs.Facts.{IsFactOf}
use Rattle.reg_checkers.specs.History.{IsAnswered, IsAt, IsCalled, IsHistory, MayAnswer, MayCall}
use Rattle.reg_checkers.specs.Orders.{IsPointOrder}
use Rattle.reg_checkers.specs.Table.{IsTable, Rows, cell}
use Rattle.reg_checkers.proofs.Histories.{call_is}
use Rattle.reg_checkers.proofs.Noting.{history_front}
use Rattle.reg_checkers.proofs.OneMore.{IsOneMore, pushed}
use Rattle.reg_checkers.proofs.Places.{at_map, same_at, within}
use Rattle.reg_checkers.proofs.Pushing.{history_more}
use Rattle.reg_judge.specs.Acts.{made, made_of}
use Rattle.reg_judge.specs.Candidates.{AreAnswersOf, AreCandidates, AreLeft, HasValue, IsOver, IsSince}
use Rattle.reg_judge.specs.Judging.{HasPointOrder}
use Rattle.reg_judge.specs.Possible.{Has, IsPossible}
use Rattle.reg_judge.proofs.Locality.{runs_by}
use Rattle.reg_judge.proofs.Registers.{goes_on}
use Rattle.reg_judge.proofs.SameMemory.{Runs}

-- what an operation leaves where it has this answer, it leaves
pub made_is : (op : Op) (a : Answer) (x : ℕ) → made op a ≡ Some x → made_of op ≡ Some x
made_is (Read r) a x e = e
made_is (Write r v) a x e = e
made_is (Swap r v) a x e = e
made_is (CompareAndSwap r e v) Done x is = is
made_is (CompareAndSwap r e v) (Value u) x is = is
made_is (CompareAndSwap r e v) Unequal x is = absurd cc

-- an answer that stands in an order is that of some memory
fitting : (g : List Entry) (ids : List OpId) (m : Memory) → Runs g m ids → (k : ℕ) (id : OpId) → IsAt ids k id
    → (at : ℕ) (answer : Answer) → IsAnswered g id at answer
    → (op : Op) × ((s : ℕ) × IsCalled g id s op) × ((n : Memory) × (answer ≡ answer_of op n))
fitting g [] m runs k id here at answer given = absurd cc
fitting g (x ∷ ids) m (op, called, gives, rest) zero id here at answer given =
    let same = same_Some x id here in
    (op, subst (λ (y : OpId). (s : ℕ) × IsCalled g y s op) same called, (m, gives at answer (subst (λ (y : OpId). IsAnswered g y at answer) (sym same) given)))
fitting g (x ∷ ids) m (op, called, gives, rest) (suc k) id here at answer given =
    fitting g ids (after op m) rest k id here at answer given

-- One register.
module _ (n : ℕ) (g : List Entry) (good : IsHistory n 1 g) where
  on_first : (id : OpId) (at : ℕ) (op : Op) → IsCalled g id at op → register_of op ≡ 0
  on_first id at op (k, here) =
      let may : MayCall n 1 (take k g) at id op = good k (Called at id op) here in
      let lt = may.register in
      omega (arith, lt)

  next_value : (op : Op) (m : Memory) → register_of op ≡ 0 → 0 < length m → (slice_index (after op m) 0 ≡ slice_index m 0) ⊎ (made_of op ≡ Some (slice_index (after op m) 0))
  next_value op m is fits = go (made op (answer_of op m)) refl
    where
      leaves : unwrap_or (made op (answer_of op m)) (slice_index m 0) ≡ slice_index (after op m) 0
      leaves = (goes_on op m 0 (answer_of op m) is fits refl).leaves

      go : (o : Option ℕ) → made op (answer_of op m) ≡ o → (slice_index (after op m) 0 ≡ slice_index m 0) ⊎ (made_of op ≡ Some (slice_index (after op m) 0))
      go None e = inl (sym (ap (λ (o : Option ℕ). unwrap_or o (slice_index m 0)) (sym e) ∙ leaves))
      go (Some x) e =
          let same : x ≡ slice_index (after op m) 0 = ap (λ (o : Option ℕ). unwrap_or o (slice_index m 0)) (sym e) ∙ leaves in
          inr (made_is op (answer_of op m) x e ∙ ap (λ (y : ℕ). Some y) same)

  fits_next : (op : Op) (m : Memory) → 0 < length m → 0 < length (after op m)
  fits_next op m fits = subst (λ (l : ℕ). 0 < l) (sym (length-after op m)) fits

  -- an operation that leaves the value stands there in the order
  abbrev Makes : List OpId → ℕ → ℕ → Type 0
  Makes ids v j = (w : OpId) × (at : ℕ) × (op : Op) × IsAt ids j w × IsCalled g w at op × (made_of op ≡ Some v)

  made_before : (ids : List OpId) (m : Memory) → 0 < length m → Runs g m ids → (k : ℕ) (id : OpId) (at v : ℕ) → IsAt ids k id → IsAnswered g id at (Value v) → (v ≡ slice_index m 0) ⊎ ((j : ℕ) × Makes ids v j)
  made_before [] m fits runs k id at v here given = absurd cc
  made_before (x ∷ ids) m fits (op, (s, called), gives, rest) zero id at v here given =
      let right : Value v ≡ answer_of op m = gives at (Value v) (subst (λ (y : OpId). IsAnswered g y at (Value v)) (sym (same_Some x id here)) given) in
      inl ((goes_on op m 0 (Value v) (on_first x s op called) fits right).suits)
  made_before (x ∷ ids) m fits (op, (s, called), gives, rest) (suc k) id at v here given = go (made_before ids (after op m) (fits_next op m fits) rest k id at v here given)
    where
      first : v ≡ slice_index (after op m) 0 → (slice_index (after op m) 0 ≡ slice_index m 0) ⊎ (made_of op ≡ Some (slice_index (after op m) 0)) → (v ≡ slice_index m 0) ⊎ ((j : ℕ) × Makes (x ∷ ids) v j)
      first same (inl old) = inl (same ∙ old)
      first same (inr new) = inr (0, (x, s, op, refl, called, new ∙ ap (λ (y : ℕ). Some y) (sym same)))

      go : (v ≡ slice_index (after op m) 0) ⊎ ((j : ℕ) × Makes ids v j) → (v ≡ slice_index m 0) ⊎ ((j : ℕ) × Makes (x ∷ ids) v j)
      go (inl same) = first same (next_value op m (on_first x s op called) fits)
      go (inr (j, (w, t, o, there, was, makes))) = inr (suc j, (w, t, o, there, was, makes))

  -- after a change the value is that of the change, or of one after it
  from_change : (ids : List OpId) (m : Memory) → 0 < length m → Runs g m ids → (k : ℕ) (u : OpId) (s : ℕ) (op : Op) (t : ℕ) (answer : Answer) (x : ℕ) → IsAt ids k u → IsCalled g u s op → IsAnswered g u t answer → made op answer ≡ Some x
      → (i : ℕ) (id : OpId) (at v : ℕ) → k < i → IsAt ids i id → IsAnswered g id at (Value v) → (j : ℕ) × (k ≤ j) × Makes ids v j
  from_change [] m fits runs k u s op t answer x here called given makes i id at v lt there is = absurd cc
  from_change (y ∷ ids) m fits (o, (b, was), gives, rest) k u s op t answer x here called given makes zero id at v lt there is = absurd (omega (arith, lt))
  from_change (y ∷ ids) m fits (o, (b, was), gives, rest) zero u s op t answer x here called given makes (suc i) id at v lt there is = go (made_before ids (after o m) (fits_next o m fits) rest i id at v there is)
    where
      same : y ≡ u
      same = same_Some y u here

      op_is : o ≡ op
      op_is = (call_is n 1 g good u b s o op (subst (λ (z : OpId). IsCalled g z b o) same was) called).1

      left : made o answer ≡ Some x
      left = ap (λ (z : Op). made z answer) op_is ∙ makes

      leaves : x ≡ slice_index (after o m) 0
      leaves =
          ap (λ (z : Option ℕ). unwrap_or z (slice_index m 0)) (sym left)
          ∙ (goes_on o m 0 answer (on_first y b o was) fits (gives t answer (subst (λ (z : OpId). IsAnswered g z t answer) (sym same) given))).leaves

      go : (v ≡ slice_index (after o m) 0) ⊎ ((j : ℕ) × Makes ids v j) → (j : ℕ) × (0 ≤ j) × Makes (y ∷ ids) v j
      go (inl e) = (0, omega arith, (y, b, o, refl, was, made_is o answer x left ∙ ap (λ (z : ℕ). Some z) (leaves ∙ sym e)))
      go (inr (j, (w, c, p, at_w, call, leaves_v))) = (suc j, omega arith, (w, c, p, at_w, call, leaves_v))
  from_change (y ∷ ids) m fits (o, (b, was), gives, rest) (suc k) u s op t answer x here called given makes (suc i) id at v lt there is =
      let more = from_change ids (after o m) (fits_next o m fits) rest k u s op t answer x here called given makes i id at v (omega (arith, lt)) there is in
      let le = more.1 in
      (suc more.0, omega (arith, le), more.2)

  -- the value was left by an operation that was not over before the change
  abbrev IsLeft : Option ℕ → ℕ → Type 0
  IsLeft since v = (w : OpId) × (at : ℕ) × (op : Op) × IsCalled g w at op × (made_of op ≡ Some v) × ((e : ℕ) (a : Answer) → IsAnswered g w e a → unwrap_or since 0 ≤ e)

  abbrev IsFirstOrLeft : Option ℕ → ℕ → Type 0
  IsFirstOrLeft since v = ((since ≡ None) × (v ≡ 0)) ⊎ IsLeft since v

  module _ (ps : List Point) (order : IsPointOrder 1 g ps) (id : OpId) (called at v : ℕ) (op : Op) (was : IsCalled g id called op) (given : IsAnswered g id at (Value v)) where
    runs : Runs g (replicate 1 0) (map (λ p. p.id) ps)
    runs = runs_by 1 g (map (λ p. p.id) ps) order.legal

    spot : (k : ℕ) × IsAt (map (λ p. p.id) ps) k id
    spot = order.selection.finished id (at, Value v, given)

    -- the point of an operation
    point : (k : ℕ) (x : OpId) → IsAt (map (λ p. p.id) ps) k x → (p : Point) × IsAt ps k p × (p.id ≡ x)
    point k x here = at_map (λ (p : Point). p.id) ps k x here

    not_before : (k : ℕ) (x : OpId) (p : Point) → IsAt ps k p → p.id ≡ x → (s : ℕ) (o : Op) → IsCalled g x s o → s ≤ p.at
    not_before k x p here is s o call = order.called k p s o here (subst (λ (y : OpId). IsCalled g y s o) (sym is) call)

    not_after : (k : ℕ) (x : OpId) (p : Point) → IsAt ps k p → p.id ≡ x → (t : ℕ) (a : Answer) → IsAnswered g x t a → p.at ≤ t
    not_after k x p here is t a answer = order.answered k p t a here (subst (λ (y : OpId). IsAnswered g y t a) (sym is) answer)

    rises : (i j : ℕ) (p q : Point) → IsAt ps i p → IsAt ps j q → i ≤ j → p.at ≤ q.at
    rises i j p q at_i at_j le = elim (cases_order i j) [
      | inl same ↦ let e : p.at ≡ q.at = ap (λ (x : Point). x.at) (same_at ps j p q (subst (λ (l : ℕ). IsAt ps l p) same at_i) at_j) in omega (arith, e)
      | inr (inl lt) ↦ order.rising i j p q at_i at_j lt
      | inr (inr gt) ↦ absurd (omega (arith, gt, le))
    ]

    pub left_by : (since : Option ℕ) → IsSince g called since → IsFirstOrLeft since v
    left_by None any = go (made_before (map (λ p. p.id) ps) (replicate 1 0) (omega arith) runs spot.0 id at v spot.1 given)
      where
        go : (v ≡ slice_index (replicate 1 0) 0) ⊎ ((j : ℕ) × Makes (map (λ p. p.id) ps) v j) → IsFirstOrLeft None v
        go (inl zero_) = inl (refl, zero_)
        go (inr (j, (w, t, o, there, call, makes))) = inr (w, t, o, call, makes, λ e a answer. omega arith)
    left_by (Some s) (u, o, t, answer, x, call, done, lt, makes) =
        let there = order.selection.finished u (t, answer, done) in
        let p = point there.0 u there.1 in
        let q = point spot.0 id spot.1 in
        let low = not_before there.0 u p.0 p.1 p.2 s o call in
        let high = not_after there.0 u p.0 p.1 p.2 t answer done in
        let from = not_before spot.0 id q.0 q.1 q.2 called op was in
        let before : there.0 < spot.0 = elim (cases_order there.0 spot.0) [
          | inl same ↦ absurd (let le = rises spot.0 there.0 q.0 p.0 q.1 p.1 (omega (arith, same)) in omega (arith, high, from, le, lt))
          | inr (inl less) ↦ less
          | inr (inr gt) ↦ absurd (let le = rises spot.0 there.0 q.0 p.0 q.1 p.1 (omega (arith, gt)) in omega (arith, high, from, le, lt))
        ] in
        let found = from_change (map (λ p. p.id) ps) (replicate 1 0) (omega arith) runs there.0 u s o t answer x there.1 call done makes spot.0 id at v before spot.1 given in
        let j = found.0 in
        let w = found.2.0 in
        inr (
          w,
          found.2.1,
          found.2.2,
          found.2.4,
          found.2.5,
          λ e a answered. (
              let r = point j w found.2.3 in
              let up = not_after j w r.0 r.1 r.2 e a answered in
              let le = found.1 in
              let rise = rises there.0 j p.0 r.0 p.1 r.1 le in
              omega (arith, low, up, rise)
              ),
        )

-- An answer in place of another.
module _ (n : ℕ) (h : List Entry) (good : IsHistory n 1 h) (place at : ℕ) (id : OpId) (given : Answer) (here : IsAt h place (Answered at id given)) (answer : Answer) where
  more : IsOneMore (take place h) (Answered at id answer) (take place h ++ Answered at id answer ∷ [])
  more = pushed (take place h) (Answered at id answer)

  front : IsHistory n 1 (take place h)
  front = history_front n 1 h place good

  may : MayAnswer (take place h) at id given
  may = good place (Answered at id given) here

  called_front : (w : OpId) (s : ℕ) (op : Op) → IsCalled (take place h ++ Answered at id answer ∷ []) w s op → IsCalled (take place h) w s op
  called_front w s op was = elim (more.cases (Called s w op) was) [ inl old ↦ old | inr new ↦ absurd cc ]

  -- it is in place, if it has a point order
  pub answer_fits : HasPointOrder 1 (take place h ++ Answered at id answer ∷ []) → MayAnswer (take place h) at id answer
  answer_fits (ps, order) =
      let g = take place h ++ Answered at id answer ∷ [] in
      let done : IsAnswered g id at answer = more.new in
      let there = order.selection.finished id (at, answer, done) in
      let fit = fitting g (map (λ p. p.id) ps) (replicate 1 0) (runs_by 1 g (map (λ p. p.id) ps) order.legal) there.0 id there.1 at answer done in
      let same : fit.0 ≡ may.op = (call_is n 1 (take place h) front id fit.1.0 may.called_at fit.0 may.op (called_front id fit.1.0 fit.0 fit.1.1) may.called).1 in
      record {
        event = may.event;
        called_at = may.called_at;
        op = may.op;
        called = may.called;
        running = may.running;
        fits = (fit.2.0, fit.2.1 ∙ ap (λ (o : Op). answer_of o fit.2.0) same);
        later = may.later;
      }

  module _ (order : HasPointOrder 1 (take place h ++ Answered at id answer ∷ [])) where
    good_more : IsHistory n 1 (take place h ++ Answered at id answer ∷ [])
    good_more = history_more n 1 (take place h) (Answered at id answer) front (answer_fits order)

    since_more : (event : ℕ) (since : Option ℕ) → IsSince (take place h) event since → IsSince (take place h ++ Answered at id answer ∷ []) event since
    since_more event None is = tt
    since_more event (Some s) (u, op, t, a, v, called, done, lt, makes) = (u, op, t, a, v, more.old (Called s u op) called, more.old (Answered t u a) done, lt, makes)

    module _ {A : Type 0} (rows : Rows A) (table : IsTable (take place h) rows) (called : ℕ) (op : Op) (was : IsCalled (take place h) id called op) (since : Option ℕ) (is : IsSince (take place h) called since) (values : List ℕ) (left : AreLeft rows (take place h) since values) where
      -- what was over by the table was answered
      over : (w : OpId) (event : ℕ) → IsOver rows w event → (e : ℕ) × (a : Answer) × IsAnswered (take place h) w e a × (e < event)
      over w event (f, g, is, answered, lt) =
          let fact : IsFactOf (take place h) w f = table.facts w f is in
          let known = subst (λ (o : Option Given). MatchOption o (¬ ((e : ℕ) × (a : Answer) × IsAnswered (take place h) w e a)) (λ r. IsAnswered (take place h) w r.at r.answer)) answered fact.answered in
          (g.at, g.answer, known, lt)

      pub value_left : (v : ℕ) → answer ≡ Value v → HasValue values v
      value_left v e = go (left_by n (take place h ++ Answered at id answer ∷ []) good_more order.0 order.1 id called at v op (more.old (Called called id op) was) (subst (λ (a : Answer). IsAnswered (take place h ++ Answered at id answer ∷ []) id at a) e more.new) since (since_more called since is))
        where
          go : IsFirstOrLeft n (take place h ++ Answered at id answer ∷ []) good_more since v → HasValue values v
          go (inl (none, zero_)) = subst (HasValue values) (sym zero_) (left.first none)
          go (inr (w, t, o, call, makes, late)) =
              let there = called_front w t o call in
              left.left there.0 t w o v (within (take place h) there.0 (Called t w o) there.1) there.1 makes (λ bad. (
              let known = over w (unwrap_or since 0) bad in
              let le = late known.0 known.1 (more.old (Answered known.0 w known.1) known.2) in
              let lt = known.3 in
              omega (arith, le, lt)
              ))

      pub answer_left : (answers : List Answer) → AreAnswersOf values answers → Has answers answer
      answer_left answers are = go answer refl
        where
          go : (a : Answer) → answer ≡ a → Has answers answer
          go Done e = subst (Has answers) (sym e) are.done
          go Unequal e = subst (Has answers) (sym e) are.unequal
          go (Value v) e = let there = value_left v e in subst (Has answers) (sym e) (are.value there.0 v (within values there.0 v there.1) there.1)

-- The same where the answer is told by the entry at the place.
module _ (n : ℕ) (h : List Entry) (good : IsHistory n 1 h) (place at : ℕ) (id : OpId) (given : Answer) (here : IsAt h place (Answered at id given)) where
  -- what is possible is so of this operation
  order_of : (answer : Answer) → IsPossible 1 h place answer → HasPointOrder 1 (take place h ++ Answered at id answer ∷ [])
  order_of answer (t, x, a, there, order) =
      let same : Answered t x a ≡ Answered at id given = same_at h place (Answered t x a) (Answered at id given) there here in
      let event : t ≡ at = cc in
      let name : x ≡ id = cc in
      subst (λ (y : OpId). HasPointOrder 1 (take place h ++ Answered at y answer ∷ [])) name (subst (λ (s : ℕ). HasPointOrder 1 (take place h ++ Answered s x answer ∷ [])) event order)

  pub is_possible : (answer : Answer) (registers : ℕ) (entries : List Entry) → registers ≡ 1
      → entries ≡ take place h ++ Answered at id answer ∷ [] → HasPointOrder registers entries
      → IsPossible 1 h place answer
  is_possible answer registers entries one are order = (at, id, given, here, subst (HasPointOrder 1) are (subst (λ (r : ℕ). HasPointOrder r entries) one order))

  pub not_possible : (answer : Answer) (registers : ℕ) (entries : List Entry) → registers ≡ 1
      → entries ≡ take place h ++ Answered at id answer ∷ [] → ¬ HasPointOrder registers entries
      → ¬ IsPossible 1 h place answer
  not_possible answer registers entries one are none possible = none (subst (λ (r : ℕ). HasPointOrder r entries) (sym one) (subst (HasPointOrder 1) (sym are) (order_of answer possible)))

  pub not_in_place : (answer : Answer) (part : List Entry) → part ≡ take place h → ¬ MayAnswer part at id answer
      → ¬ IsPossible 1 h place answer
  not_in_place answer part are not possible = not (subst (λ (l : List Entry). MayAnswer l at id answer) (sym are) (answer_fits n h good place at id given here answer (order_of answer possible)))

  pub complete : {A : Type 0} (part : List Entry) → part ≡ take place h → (rows : Rows A) → IsTable part rows
      → (f : Fact) → cell rows id ≡ Some f → (since : Option ℕ) → IsSince part f.called since → (values : List ℕ)
      → AreLeft rows part since values → (answers : List Answer) → AreAnswersOf values answers
      → AreCandidates 1 h place answers
  complete part are rows table f is since changed values left answers those answer possible =
      let front : IsTable (take place h) rows = subst (λ (l : List Entry). IsTable l rows) are table in
      answer_left n h good place at id given here answer (order_of answer possible) rows front f.called f.op (front.facts id f is).called since
      (subst (λ (l : List Entry). IsSince l f.called since) are changed)
      values
      (subst (λ (l : List Entry). AreLeft rows l since values) are left)
      answers
      those
