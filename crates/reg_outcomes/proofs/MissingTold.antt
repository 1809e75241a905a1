-- What a history tells a process: what the operations of the process were answered, by number.
use Rattle.std.proofs.Common.{◌≡◌, inl, inr, ℕ, zero, suc, ◌+◌, ◌<◌, ◌↔◌, Bool, true, cond, List, [], ◌∷◌, ◌++◌, Some}
use Rattle.std.proofs.Common.{None, length, take, refl, ap, sym, ◌∙◌, subst, arith, append-nil}
use Rattle.std.specs.Prelude.{◌==◌, ◌&&◌}
use Rattle.std.specs.List.{flat_map, range_with_len}
use Rattle.std.proofs.lemmas.Bool.{cases_eq, cases_order, cond_both, and_parts, and_from, eqb-true, eq-eqb, ne_eqb}
use Rattle.std.proofs.lemmas.Grind.{flat_map-append}
use Rattle.std.proofs.lemmas.List.{take_at}
use Rattle.reg_base.specs.declared.memory.Answer.{Answer}
use Rattle.reg_base.specs.declared.memory.Answer.TheVariants.{Done}
use Rattle.reg_base.specs.declared.memory.Op.{Op}
use Rattle.reg_base.specs.declared.memory.OpId.{OpId}
use Rattle.reg_checkers.specs.declared.entries.Entry.{Entry}
use Rattle.reg_checkers.specs.declared.entries.Entry.TheVariants.{Called, Answered}
use Rattle.reg_checkers.specs.History.{IsAt, IsAnswered, IsCalled, IsFinished, WasCalled, MayCall, MayAnswer, IsInPlace}
use Rattle.reg_checkers.specs.History.{IsHistory}
use Rattle.reg_checkers.specs.Progress.{op_of}
use Rattle.reg_checkers.proofs.Histories.{answer_is}
use Rattle.reg_checkers.proofs.Noting.{history_front}
use Rattle.reg_checkers.proofs.OneMore.{IsOneMore, pushed}
use Rattle.reg_checkers.proofs.Places.{in_take, get_push_same}
use Rattle.reg_outcomes.specs.declared.told.ToldAnswer.{ToldAnswer}
use Rattle.reg_outcomes.specs.Told.{called_last, told_in, told_at, told_of}
use Rattle.reg_outcomes.proofs.TellingHistory.{last_in, last_push, none_of_other, told_push}
use Rattle.reg_workload.proofs.InOrder.{range_more}
use Rattle.reg_world.proofs.lists.Members.{from_end}
use Rattle.reg_world.proofs.one_memory.Added.{same_op_id}

abbrev is_same : OpId → OpId → Bool
is_same a b = (a.process == b.process) && (a.number == b.number)

-- the answer of an operation, by the first entry that has one
abbrev pub answer_in : List Entry → OpId → Answer
answer_in [] id = Done
answer_in (Called at other op ∷ es) id = answer_in es id
answer_in (Answered at other x ∷ es) id = cond (is_same other id) x (answer_in es id)

abbrev IsFound : List Entry → OpId → Answer → Type 0
IsFound es id y = (at : ℕ) × IsAnswered es id at y

found_here : (es : List Entry) (s : ℕ) (other : OpId) (y : Answer) (id : OpId) → other ≡ id
    → IsFound (Answered s other y ∷ es) id y
found_here es s other y id same = subst (λ z. IsFound (Answered s other y ∷ es) z y) same (s, (0, refl))

found_at : (es : List Entry) (k at : ℕ) (id : OpId) (x : Answer) → IsAt es k (Answered at id x)
    → IsFound es id (answer_in es id)
found_at [] k at id x h = absurd cc
found_at (Called s other op ∷ es) zero at id x h = absurd cc
found_at (Called s other op ∷ es) (suc k) at id x h = let r = found_at es k at id x h in (r.0, (suc r.1.0, r.1.1))
found_at (Answered s other y ∷ es) zero at id x h =
    let same : other ≡ id = cc in
    let tested : is_same other id ≡ true =
    and_from (other.process == id.process) (other.number == id.number) (eq-eqb other.process id.process (ap (λ (z : OpId). z.process) same)) (eq-eqb other.number id.number (ap (λ (z : OpId). z.number) same)) in
    subst (λ b. IsFound (Answered s other y ∷ es) id (cond b y (answer_in es id))) (sym tested) (found_here es s other y id same)
found_at (Answered s other y ∷ es) (suc k) at id x h =
    let r = found_at es k at id x h in
    cond_both (is_same other id) y (answer_in es id) (IsFound (Answered s other y ∷ es) id)
    (λ e.
    let parts = and_parts (other.process == id.process) (other.number == id.number) e in
    found_here es s other y id (same_op_id other id (eqb-true other.process id.process parts.0) (eqb-true other.number id.number parts.1)))
    (λ e. (r.0, (suc r.1.0, r.1.1)))

-- what each operation was answered
abbrev pub Answers : List Entry → (OpId → Answer) → Type 0
Answers h given = (id : OpId) (at : ℕ) (x : Answer) → IsAnswered h id at x → given id ≡ x

pub answers_in : (n registers : ℕ) (h : List Entry) → IsHistory n registers h → Answers h (answer_in h)
answers_in n registers h good id at x is =
    let r = found_at h is.0 at id x is.1 in
    (answer_is n registers h good id r.0 at (answer_in h id) x r.1 is).1

-- what each operation was
abbrev pub Calls : List Entry → (OpId → Op) → Type 0
Calls h asked = (id : OpId) (at : ℕ) (op : Op) → IsCalled h id at op → asked id ≡ op

-- what the first operations of a process told
abbrev pub told_first : (OpId → Op) → (OpId → Answer) → ℕ → ℕ → List ToldAnswer
told_first asked given p count =
    flat_map (λ m. told_in (asked (op_of p m)) (op_of p m) (given (op_of p m))) (range_with_len 0 count)

pub told_one_more : (asked : OpId → Op) (given : OpId → Answer) (p count : ℕ)
    → told_first asked given p (count + 1)
    ≡ told_first asked given p count ++ told_in (asked (op_of p count)) (op_of p count) (given (op_of p count))
told_one_more asked given p count =
    let tells : ℕ → List ToldAnswer = λ m. told_in (asked (op_of p m)) (op_of p m) (given (op_of p m)) in
    ap (flat_map tells) (range_more 0 count count (omega arith)) ∙ flat_map-append tells (range_with_len 0 count) (count ∷ []) ∙ ap (λ l. flat_map tells (range_with_len 0 count) ++ l) (append-nil (tells count))

-- a process has its answer before it calls again
earlier_done : (n registers : ℕ) (h : List Entry) → IsHistory n registers h → (id : OpId) (m : ℕ) → WasCalled h id
    → m < id.number → IsFinished h (op_of id.process m)
earlier_done n registers h good id m (at, op, (k, here)) lt =
    let may : MayCall n registers (take k h) at id op = good k (Called at id op) here in
    let fin : IsFinished (take k h) (op_of id.process m) = may.idle (op_of id.process m) refl ((may.next m).0 lt) in
    let there = in_take h k fin.2.0 (Answered fin.0 (op_of id.process m) fin.1) fin.2.1 in
    (fin.0, fin.1, (fin.2.0, there.1))

-- an answer is to the first operation of its process that has none
answers_next : (n registers : ℕ) (es : List Entry) → IsHistory n registers es → (at : ℕ) (id : OpId) (x : Answer)
    → MayAnswer es at id x → (count : ℕ) → ((m : ℕ) → (m < count) ↔ IsFinished es (op_of id.process m))
    → id.number ≡ count
answers_next n registers es good at id x may count done = elim (cases_order id.number count) [
  | inl e ↦ e
  | inr q ↦ elim q [
    | inl less ↦ absurd (may.running ((done id.number).0 less))
    | inr more ↦ let bad : count < count = (done count).1 (earlier_done n registers es good id count (may.called_at, may.op, may.called) more) in absurd (omega arith)
  ]
]

-- the last entry is in place after the others, which are a history
before_last : (n registers : ℕ) (es : List Entry) (e : Entry) → IsHistory n registers (es ++ e ∷ [])
    → IsHistory n registers es × IsInPlace n registers es e
before_last n registers es e good =
    let front : take (length es) (es ++ e ∷ []) ≡ es = take_at es (e ∷ []) (length es) refl in
    (subst (IsHistory n registers) front (history_front n registers (es ++ e ∷ []) (length es) good), subst (λ (l : List Entry). IsInPlace n registers l e) front (good (length es) e (get_push_same es (length es) e refl)))

-- What a process was told is what its first operations told, as many as are finished. If it called one more, then it
-- called that one last.
pub record IsTold (asked : OpId → Op) (given : OpId → Answer) (p : ℕ) (es : List Entry) : Type 0 where
  pub count : ℕ
  pub done : (m : ℕ) → (m < count) ↔ IsFinished es (op_of p m)
  pub told : told_of p es ≡ told_first asked given p count
  pub last : WasCalled es (op_of p count) → last_in p None es ≡ Some (asked (op_of p count))

module _ (asked : OpId → Op) (given : OpId → Answer) (p : ℕ) (es : List Entry) (old : IsTold asked given p es) where
  -- an entry that answers no operation of the process
  as_before : (e : Entry) → ((at m : ℕ) (x : Answer) → Answered at (op_of p m) x ≡ e → ⊥) → told_at p (last_in p None es) e ≡ []
      → (WasCalled (es ++ e ∷ []) (op_of p old.count) → last_in p None (es ++ e ∷ []) ≡ Some (asked (op_of p old.count))) → IsTold asked given p (es ++ e ∷ [])
  as_before e none tells last = record {
    count = old.count;
    done = λ m. (
      λ lt. let f = (old.done m).0 lt in (f.0, f.1, more.old (Answered f.0 (op_of p m) f.1) f.2),
      λ f. elim (more.cases (Answered f.0 (op_of p m) f.1) f.2) [ inl was ↦ (old.done m).1 (f.0, f.1, was) | inr new ↦ absurd (none f.0 m f.1 new) ],
    );
    told = told_push p None es e ∙ ap (λ l. told_of p es ++ l) tells ∙ append-nil (told_of p es) ∙ old.told;
    last = last;
  }
    where
      more : IsOneMore es e (es ++ e ∷ [])
      more = pushed es e

  -- an entry of another process, whose call leaves the last one of this process
  of_other : (e : Entry) → ((at m : ℕ) (x : Answer) → Answered at (op_of p m) x ≡ e → ⊥) → ((at m : ℕ) (op : Op) → Called at (op_of p m) op ≡ e → ⊥) → told_at p (last_in p None es) e ≡ []
      → called_last p (last_in p None es) e ≡ last_in p None es → IsTold asked given p (es ++ e ∷ [])
  of_other e none no_call tells same = as_before e none tells (λ c. last_push p None es e ∙ same ∙ old.last (was c))
    where
      was : WasCalled (es ++ e ∷ []) (op_of p old.count) → WasCalled es (op_of p old.count)
      was c = elim ((pushed es e).cases (Called c.0 (op_of p old.count) c.1) c.2) [ inl before ↦ (c.0, c.1, before) | inr new ↦ absurd (no_call c.0 old.count c.1 new) ]

  -- the answer of its next operation, which it called last
  one_told : (at : ℕ) (x : Answer) → WasCalled es (op_of p old.count) → (WasCalled es (op_of p (old.count + 1)) → ⊥) → given (op_of p old.count) ≡ x → IsTold asked given p (es ++ Answered at (op_of p old.count) x ∷ [])
  one_told at x called no_more is = record {
    count = old.count + 1;
    done = λ m. (
      λ lt. elim (cases_eq m old.count) [
        | inl same ↦ subst (λ k. IsFinished (es ++ e ∷ []) (op_of p k)) (sym same) (at, x, more.new)
        | inr other ↦ let f = (old.done m).0 (omega (arith, lt, other)) in (f.0, f.1, more.old (Answered f.0 (op_of p m) f.1) f.2)
      ],
      λ f. elim (more.cases (Answered f.0 (op_of p m) f.1) f.2) [
        | inl was ↦ let l = (old.done m).1 (f.0, f.1, was) in omega (arith, l)
        | inr new ↦ let same = number_is f.0 m f.1 new in omega (arith, same)
      ],
    );
    told = told_push p None es e ∙ ap (λ l. told_of p es ++ told_at p l e) (old.last called)
        ∙ ap (λ b. told_of p es ++ cond b (told_in (asked (op_of p old.count)) (op_of p old.count) x) []) (eq-eqb p p refl)
        ∙ ap (λ l. l ++ told_in (asked (op_of p old.count)) (op_of p old.count) x) old.told
        ∙ ap (λ y. told_first asked given p old.count ++ told_in (asked (op_of p old.count)) (op_of p old.count) y) (sym is) ∙ sym (told_one_more asked given p old.count);
    last = λ c. elim (more.cases (Called c.0 (op_of p (old.count + 1)) c.1) c.2) [ inl before ↦ absurd (no_more (c.0, c.1, before)) | inr new ↦ absurd (not_a_call c.0 c.1 new) ];
  }
    where
      e : Entry
      e = Answered at (op_of p old.count) x

      more : IsOneMore es (Answered at (op_of p old.count) x) (es ++ Answered at (op_of p old.count) x ∷ [])
      more = pushed es (Answered at (op_of p old.count) x)

      number_is : (s m : ℕ) (y : Answer) → Answered s (op_of p m) y ≡ Answered at (op_of p old.count) x → m ≡ old.count
      number_is s m y same = let ids : op_of p m ≡ op_of p old.count = cc in ap (λ (z : OpId). z.number) ids

      not_a_call : (s : ℕ) (op : Op) → Called s (op_of p (old.count + 1)) op ≡ Answered at (op_of p old.count) x → ⊥
      not_a_call s op same = cc

pub history_told : (n registers : ℕ) (asked : OpId → Op) (given : OpId → Answer) (p : ℕ) (h : List Entry)
    → IsHistory n registers h → Calls h asked → Answers h given → IsTold asked given p h
history_told n registers asked given p h =
    from_end (λ es. IsHistory n registers es → Calls es asked → Answers es given → IsTold asked given p es) none next h
  where
    none : IsHistory n registers [] → Calls [] asked → Answers [] given → IsTold asked given p []
    none good calls is = record {
      count = 0;
      done = λ m. (λ lt. absurd (omega arith), λ f. absurd (nothing f.2.0 (Answered f.0 (op_of p m) f.1) f.2.1));
      told = refl;
      last = λ c. absurd (nothing c.2.0 (Called c.0 (op_of p 0) c.1) c.2.1);
    }
      where
        nothing : (k : ℕ) (e : Entry) → IsAt [] k e → ⊥
        nothing k e h = cc

    next : (es : List Entry) (e : Entry) → (IsHistory n registers es → Calls es asked → Answers es given → IsTold asked given p es) → IsHistory n registers (es ++ e ∷ []) → Calls (es ++ e ∷ []) asked → Answers (es ++ e ∷ []) given → IsTold asked given p (es ++ e ∷ [])
    next es e before good calls is =
        let parts = before_last n registers es e good in
        after e parts.1
        (λ at id op new. calls id at op (length es, subst (λ y. IsAt (es ++ e ∷ []) (length es) y) new (get_push_same es (length es) e refl)))
        (λ at id x new. is id at x (length es, subst (λ y. IsAt (es ++ e ∷ []) (length es) y) new (get_push_same es (length es) e refl)))
        (before parts.0 (λ id at op h. calls id at op ((pushed es e).old (Called at id op) h)) (λ id at x h. is id at x ((pushed es e).old (Answered at id x) h)))
        parts.0
      where
        after : (e : Entry) → IsInPlace n registers es e → ((at : ℕ) (id : OpId) (op : Op) → e ≡ Called at id op → asked id ≡ op) → ((at : ℕ) (id : OpId) (x : Answer) → e ≡ Answered at id x → given id ≡ x)
            → IsTold asked given p es → IsHistory n registers es → IsTold asked given p (es ++ e ∷ [])
        after (Called at id op) place calls is old good = elim (cases_eq id.process p) [
          | inl own ↦ as_before asked given p es old entry (λ s m x same. cc) refl (λ c. elim ((pushed es entry).cases (Called c.0 (op_of p old.count) c.1) c.2) [
            | inl before ↦
                let done : IsFinished es (op_of p old.count) = place.idle (op_of p old.count) (sym own) (c.0, c.1, before) in
                let bad : old.count < old.count = (old.done old.count).1 done in
                absurd (omega arith)
            | inr new ↦
                let ids : op_of p old.count ≡ id = cc in
                last_push p None es entry ∙ ap (λ b. cond b (Some op) (last_in p None es)) (eq-eqb id.process p own) ∙ ap Some (sym (calls at id op refl)) ∙ ap (λ z. Some (asked z)) (sym ids)
          ])
          | inr away ↦
              of_other asked given p es old entry (λ s m x same. cc) (λ s m o same. let ids : op_of p m ≡ id = cc in away (sym (ap (λ (z : OpId). z.process) ids))) refl
              (ap (λ b. cond b (Some op) (last_in p None es)) (ne_eqb id.process p away))
        ]
          where
            entry : Entry
            entry = Called at id op
        after (Answered at id x) place calls is old good = elim (cases_eq id.process p) [
          | inl own ↦
              let number : id.number ≡ old.count = answers_next n registers es good at id x place old.count (subst (λ q. (m : ℕ) → (m < old.count) ↔ IsFinished es (op_of q m)) (sym own) old.done) in
              let same : id ≡ op_of p old.count = same_op_id id (op_of p old.count) own number in
              let called : WasCalled es (op_of p old.count) = subst (WasCalled es) same (place.called_at, place.op, place.called) in
              let no_more : WasCalled es (op_of p (old.count + 1)) → ⊥ = (λ c.
              let done : IsFinished es (op_of p old.count) = earlier_done n registers es good (op_of p (old.count + 1)) old.count c (omega arith) in
              let bad : old.count < old.count = (old.done old.count).1 done in
              absurd (omega arith)) in
              subst (λ z. IsTold asked given p (es ++ Answered at z x ∷ [])) (sym same) (one_told asked given p es old at x called no_more (sym (ap given same) ∙ is at id x refl))
          | inr away ↦ of_other asked given p es old (Answered at id x) (λ s m y e. let ids : op_of p m ≡ id = cc in away (sym (ap (λ (z : OpId). z.process) ids))) (λ s m o e. cc)
              (none_of_other p (last_in p None es) at id x (ne_eqb id.process p away)) refl
        ]
