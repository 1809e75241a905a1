-- What a history tells once one operation more was called and answered.
use Rattle.std.proofs.Common.{◌≡◌, ℕ, zero, suc, ◌+◌, ◌<◌, ◌≤◌, Bool, true, false, cond, List, [], ◌∷◌, ◌++◌, Option}
use Rattle.std.proofs.Common.{Some, None, refl, sym, ap, ◌∙◌, subst, inl, inr, arith, append_assoc, append-nil}
use Rattle.std.specs.Prelude.{◌==◌, nat_lt}
use Rattle.std.proofs.lemmas.Bool.{cases_eq, cases_Bool, cond_both, cond-true, cond-false, eq-eqb, ne_eqb, eqb-true}
use Rattle.std.proofs.lemmas.Bool.{le-ltb, lt-ltb}
use Rattle.reg_base.specs.declared.memory.Answer.{Answer}
use Rattle.reg_base.specs.declared.memory.Op.{Op}
use Rattle.reg_base.specs.declared.memory.OpId.{OpId}
use Rattle.reg_base.specs.Memory.{tells}
use Rattle.reg_base.specs.Order.{In}
use Rattle.reg_base.proofs.Lists.{in_cases}
use Rattle.reg_checkers.specs.declared.entries.Entry.{Entry}
use Rattle.reg_checkers.specs.declared.entries.Entry.TheVariants.{Called, Answered}
use Rattle.reg_outcomes.specs.declared.told.ToldAnswer.{ToldAnswer}
use Rattle.reg_outcomes.specs.Told.{called_last, told_in, told_at, told_from, told_of, outcome_of}
use Rattle.reg_outcomes.proofs.TellingHistory.{last_in, none_of_other, outcome_none, outcome_next, told_append}
use Rattle.reg_outcomes.specs.Interleavings.{told_behind, told_after}

-- an answer stands behind all answers of its process and of those before it
behind_all : (t : ToldAnswer) (xs : List ToldAnswer) → ((x : ToldAnswer) → In x xs → x.process ≤ t.process)
    → told_behind t xs ≡ xs ++ t ∷ []
behind_all t [] h = refl
behind_all t (x ∷ xs) h =
    cond-false (nat_lt t.process x.process) (t ∷ x ∷ xs) (x ∷ told_behind t xs) (le-ltb t.process x.process (h x (inl refl)))
    ∙ ap (λ l. x ∷ l) (behind_all t xs (λ y i. h y (inr i)))

-- and before those of the processes after it
behind_first : (t : ToldAnswer) (ys : List ToldAnswer) → ((y : ToldAnswer) → In y ys → t.process < y.process)
    → told_behind t ys ≡ t ∷ ys
behind_first t [] h = refl
behind_first t (y ∷ ys) h = cond-true (nat_lt t.process y.process) (t ∷ y ∷ ys) (y ∷ told_behind t ys) (lt-ltb t.process y.process (h y (inl refl)))

pub behind_before : (t : ToldAnswer) (xs ys : List ToldAnswer) → ((y : ToldAnswer) → In y ys → t.process < y.process)
    → told_behind t (xs ++ ys) ≡ told_behind t xs ++ ys
behind_before t [] ys h = behind_first t ys h
behind_before t (x ∷ xs) ys h = ap (λ l. cond (nat_lt t.process x.process) (t ∷ x ∷ (xs ++ ys)) (x ∷ l)) (behind_before t xs ys h) ∙ by (nat_lt t.process x.process)
  where
    by : (b : Bool) → cond b (t ∷ x ∷ (xs ++ ys)) (x ∷ (told_behind t xs ++ ys)) ≡ cond b (t ∷ x ∷ xs) (x ∷ told_behind t xs) ++ ys
    by true = refl
    by false = refl

-- what a process is told is its own
in_answer : (op : Op) (id : OpId) (a : Answer) (x : ToldAnswer) → In x (told_in op id a) → x.process ≡ id.process
in_answer op id a x h = cond_both (tells op) (record { process = id.process; number = id.number; answer = a } ∷ []) [] (λ l. In x l → x.process ≡ id.process)
    (λ _ i. elim i [ inl e ↦ ap (λ (y : ToldAnswer). y.process) e | inr none ↦ absurd none ])
    (λ _ i. absurd i) h

at_process : (p : ℕ) (last : Option Op) (e : Entry) (x : ToldAnswer) → In x (told_at p last e) → x.process ≡ p
at_process p last (Called at id op) x h = absurd h
at_process p None (Answered at id a) x h = absurd h
at_process p (Some op) (Answered at id a) x h =
    cond_both (id.process == p) (told_in op id a) [] (λ l. In x l → x.process ≡ p)
    (λ same i. in_answer op id a x i ∙ eqb-true id.process p same)
    (λ _ i. absurd i) h

of_process : (p : ℕ) (last : Option Op) (h : List Entry) (x : ToldAnswer) → In x (told_from p last h) → x.process ≡ p
of_process p last [] x i = absurd i
of_process p last (e ∷ h) x i =
    elim (in_cases x (told_at p last e) (told_from p (called_last p last e) h) i) [ inl j ↦ at_process p last e x j | inr j ↦ of_process p (called_last p last e) h x j ]

-- one process more
pub outcome_more : (n : ℕ) (h : List Entry) → outcome_of (suc n) h ≡ outcome_of n h ++ told_of n h
outcome_more n h = ap (λ k. outcome_of k h) (let e : suc n ≡ n + 1 = omega arith in e) ∙ sym (outcome_next n h (outcome_of n h) (outcome_of n h ++ told_of n h) refl refl)

of_first : (n : ℕ) (h : List Entry) (x : ToldAnswer) → In x (outcome_of n h) → x.process < n
of_first zero h x i = absurd (subst (In x) (sym (outcome_none h)) i)
of_first (suc n) h x i = elim (in_cases x (outcome_of n h) (told_of n h) (subst (In x) (outcome_more n h) i)) [
  | inl j ↦ let l = of_first n h x j in omega (arith, l)
  | inr j ↦ let e = of_process n None h x j in omega (arith, e)
]

-- entries that tell the first processes nothing
silent : (n : ℕ) (h es : List Entry) → ((q : ℕ) (last : Option Op) → q < n → told_from q last es ≡ [])
    → outcome_of n (h ++ es) ≡ outcome_of n h
silent zero h es none = sym (outcome_none (h ++ es)) ∙ outcome_none h
silent (suc n) h es none =
    outcome_more n (h ++ es) ∙ ap (λ l. l ++ told_of n (h ++ es)) (silent n h es (λ q last l. none q last (omega (arith, l))))
    ∙ ap (λ l. outcome_of n h ++ l) (told_append n None h es ∙ (ap (λ l. told_of n h ++ l) (none n (last_in n None h) (omega arith)) ∙ append-nil (told_of n h)))
    ∙ sym (outcome_more n h)

-- entries that tell one process this answer
heard : (n : ℕ) (h es : List Entry) (t : ToldAnswer) → t.process < n
    → ((last : Option Op) → told_from t.process last es ≡ t ∷ [])
    → ((q : ℕ) (last : Option Op) → (q ≡ t.process → ⊥) → told_from q last es ≡ [])
    → outcome_of n (h ++ es) ≡ told_behind t (outcome_of n h)
heard zero h es t l own none = absurd (omega (arith, l))
heard (suc n) h es t l own none = elim (cases_eq n t.process) [
  | inl e ↦
      outcome_more n (h ++ es)
      ∙ ap (λ l. l ++ told_of n (h ++ es)) (silent n h es (λ q last less. none q last (λ same. absurd (omega (arith, less, same, e)))))
      ∙ ap (λ l. outcome_of n h ++ l) (told_append n None h es ∙ ap (λ l. told_of n h ++ l) (ap (λ q. told_from q (last_in n None h) es) e ∙ own (last_in n None h)))
      ∙ sym (append_assoc (outcome_of n h) (told_of n h) (t ∷ []))
      ∙ ap (λ l. l ++ t ∷ []) (sym (outcome_more n h))
      ∙ sym (behind_all t (outcome_of (suc n) h) (λ x i. let b = of_first (suc n) h x i in omega (arith, b, e)))
  | inr ne ↦
      outcome_more n (h ++ es)
      ∙ ap (λ l. l ++ told_of n (h ++ es)) (heard n h es t (omega (arith, l, ne)) own none)
      ∙ ap (λ l. told_behind t (outcome_of n h) ++ l) (told_append n None h es ∙ (ap (λ l. told_of n h ++ l) (none n (last_in n None h) ne) ∙ append-nil (told_of n h)))
      ∙ sym (behind_before t (outcome_of n h) (told_of n h) (λ y i. let e = of_process n None h y i in omega (arith, e, l, ne)))
      ∙ ap (told_behind t) (sym (outcome_more n h))
]

-- what the call and the answer of one operation tell
turn_tells : (q : ℕ) (last : Option Op) (at later : ℕ) (id : OpId) (op : Op) (a : Answer)
    → told_from q last (Called at id op ∷ Answered later id a ∷ []) ≡ cond (id.process == q) (told_in op id a) []
turn_tells q last at later id op a = append-nil (told_at q (cond (id.process == q) (Some op) last) (Answered later id a)) ∙ elim (cases_Bool (id.process == q)) [
  | inl own ↦ ap (λ b. told_at q (cond b (Some op) last) (Answered later id a)) own
  | inr other ↦ none_of_other q (cond (id.process == q) (Some op) last) later id a other ∙ sym (cond-false (id.process == q) (told_in op id a) [] other)
]

pub turn_told : (n : ℕ) (h : List Entry) (at later : ℕ) (id : OpId) (op : Op) (a : Answer) → id.process < n
    → outcome_of n (h ++ Called at id op ∷ Answered later id a ∷ []) ≡ told_after op id a (outcome_of n h)
turn_told n h at later id op a l =
    let t : ToldAnswer = record { process = id.process; number = id.number; answer = a } in
    let es : List Entry = Called at id op ∷ Answered later id a ∷ [] in
    elim (cases_Bool (tells op)) [
      | inl telling ↦
          heard n h es t l
          (λ last. turn_tells id.process last at later id op a ∙ cond-true (id.process == id.process) (told_in op id a) [] (eq-eqb id.process id.process refl) ∙ cond-true (tells op) (t ∷ []) [] telling)
          (λ q last ne. turn_tells q last at later id op a ∙ cond-false (id.process == q) (told_in op id a) [] (ne_eqb id.process q (λ e. ne (sym e))))
          ∙ sym (cond-true (tells op) (told_behind t (outcome_of n h)) (outcome_of n h) telling)
      | inr silence ↦
          silent n h es (λ q last _. turn_tells q last at later id op a ∙ ap (λ ts. cond (id.process == q) ts []) (cond-false (tells op) (t ∷ []) [] silence) ∙ none (id.process == q))
          ∙ sym (cond-false (tells op) (told_behind t (outcome_of n h)) (outcome_of n h) silence)
    ]
  where
    none : (b : Bool) → cond {A = List ToldAnswer} b [] [] ≡ []
    none true = refl
    none false = refl
