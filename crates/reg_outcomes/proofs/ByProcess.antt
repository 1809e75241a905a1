-- What a stage tells, by process: for those who tie interleavings to histories.
use Rattle.std.proofs.Common.{◌≡◌, ◌≢◌, ◌⊎◌, inl, inr, ℕ, zero, suc, ◌+◌, ◌<◌, ◌≤◌, Bool, true, false, cond, List, []}
use Rattle.std.proofs.Common.{◌∷◌, ◌++◌, length, refl, ap, ap₂, sym, ◌∙◌, arith, append-nil}
use Rattle.std.specs.Prelude.{◌==◌, nat_lt, slice_index}
use Rattle.std.specs.List.{filter, flat_map, range_with_len}
use Rattle.std.proofs.lemmas.Bool.{cases_eq, cond_both}
use Rattle.std.proofs.lemmas.Bool.Decides.{nat_tests}
use Rattle.reg_base.specs.declared.memory.Answer.{Answer}
use Rattle.reg_base.specs.declared.memory.Op.{Op}
use Rattle.reg_base.specs.declared.memory.OpId.{OpId}
use Rattle.reg_base.specs.Memory.{answer_of, tells}
use Rattle.reg_base.specs.Order.{In}
use Rattle.reg_outcomes.specs.declared.told.ToldAnswer.{ToldAnswer}
use Rattle.reg_outcomes.specs.Told.{told_in}
use Rattle.reg_outcomes.specs.Interleavings.{Leads, Nothing, Turn, Stage, told_after, told_behind}
use Rattle.reg_outcomes.proofs.Stepping.{has_script}

-- what this process was told
abbrev pub told_to : List ToldAnswer → ℕ → List ToldAnswer
told_to told p = filter (λ t. t.process == p) told

-- no process falls, and each is below n
abbrev pub Rises : ℕ → List ToldAnswer → Type 0
Rises n [] = Unit {0}
Rises n (t ∷ ts) = (t.process < n) × ((u : ToldAnswer) → In u ts → t.process ≤ u.process) × Rises n ts

same_test : (a b : ℕ) → a ≡ b → (a == b) ≡ true
same_test a b e = grind (arith, nat_tests)

other_test : (a b : ℕ) → a ≢ b → (a == b) ≡ false
other_test a b e = grind (arith, nat_tests)

below_test : (a b : ℕ) → nat_lt a b ≡ true → a < b
below_test a b e = grind (arith, nat_tests)

not_below_test : (a b : ℕ) → nat_lt a b ≡ false → b ≤ a
not_below_test a b e = grind (arith, nat_tests)

-- one answer more stands among those that were told, or it is the new one
in_behind_at : (b : Bool) (t x u : ToldAnswer) (xs : List ToldAnswer) → (In u (told_behind t xs) → (u ≡ t) ⊎ In u xs)
    → In u (cond b (t ∷ x ∷ xs) (x ∷ told_behind t xs)) → (u ≡ t) ⊎ In u (x ∷ xs)
in_behind_at true t x u xs rest (inl e) = inl e
in_behind_at true t x u xs rest (inr h) = inr h
in_behind_at false t x u xs rest (inl e) = inr (inl e)
in_behind_at false t x u xs rest (inr h) = elim (rest h) [ inl e ↦ inl e | inr k ↦ inr (inr k) ]

in_behind : (t u : ToldAnswer) (xs : List ToldAnswer) → In u (told_behind t xs) → (u ≡ t) ⊎ In u xs
in_behind t u [] (inl e) = inl e
in_behind t u [] (inr h) = inr h
in_behind t u (x ∷ xs) h = in_behind_at (nat_lt t.process x.process) t x u xs (in_behind t u xs) h

rises_at : (n : ℕ) (b : Bool) (t x : ToldAnswer) (xs : List ToldAnswer) → nat_lt t.process x.process ≡ b → t.process < n
    → Rises n (x ∷ xs) → Rises n (told_behind t xs) → Rises n (cond b (t ∷ x ∷ xs) (x ∷ told_behind t xs))
rises_at n true t x xs e lt h rest =
    let first = below_test t.process x.process e in
    (lt, (λ u k. elim k [ inl same ↦ (let s = ap (λ (v : ToldAnswer). v.process) same in omega (arith, s, first)) | inr there ↦ (let l = h.1 u there in omega (arith, l, first)) ]), h)
rises_at n false t x xs e lt h rest =
    let last = not_below_test t.process x.process e in
    (h.0, (λ u k. elim (in_behind t u xs k) [ inl same ↦ (let s = ap (λ (v : ToldAnswer). v.process) same in omega (arith, s, last)) | inr there ↦ h.1 u there ]), rest)

rises_behind : (n : ℕ) (t : ToldAnswer) (xs : List ToldAnswer) → t.process < n → Rises n xs → Rises n (told_behind t xs)
rises_behind n t [] lt h = (lt, (λ u k. absurd k), tt)
rises_behind n t (x ∷ xs) lt h = rises_at n (nat_lt t.process x.process) t x xs refl lt h (rises_behind n t xs lt h.2)

rises_after : (n : ℕ) (op : Op) (id : OpId) (answer : Answer) (told : List ToldAnswer) → id.process < n → Rises n told
    → Rises n (told_after op id answer told)
rises_after n op id answer told lt h =
    let t : ToldAnswer = record { process = id.process; number = id.number; answer = answer } in
    cond_both (tells op) (told_behind t told) told (Rises n) (λ _. rises_behind n t told lt h) (λ _. h)

-- what is told rises by process
pub rises : (scripts : List (List Op)) (registers : ℕ) (turns : List ℕ) (s : Stage) → Leads scripts registers turns s
    → Rises (length scripts) s.told
rises scripts registers turns s Nothing = tt
rises scripts registers turns s (Turn {turns = old} {s = from} p op leads at) =
    rises_after (length scripts) op (record { process = p; number = slice_index from.next p }) (answer_of op from.memory) from.told (has_script scripts p (slice_index from.next p) op at) (rises scripts registers old from leads)

-- by the test of the first answer
part_yes : (p : ℕ) (t : ToldAnswer) (ts : List ToldAnswer) → t.process ≡ p → told_to (t ∷ ts) p ≡ t ∷ told_to ts p
part_yes p t ts e = ap (λ b. cond b (t ∷ told_to ts p) (told_to ts p)) (same_test t.process p e)

part_no : (p : ℕ) (t : ToldAnswer) (ts : List ToldAnswer) → t.process ≢ p → told_to (t ∷ ts) p ≡ told_to ts p
part_no p t ts ne = ap (λ b. cond b (t ∷ told_to ts p) (told_to ts p)) (other_test t.process p ne)

part_none : (p : ℕ) (ts : List ToldAnswer) → ((u : ToldAnswer) → In u ts → p < u.process) → told_to ts p ≡ []
part_none p [] h = refl
part_none p (t ∷ ts) h =
    part_no p t ts (let l = h t (inl refl) in λ e. omega (arith, l, e)) ∙ part_none p ts (λ u k. h u (inr k))

other_part_at : (p : ℕ) (b : Bool) (t x : ToldAnswer) (xs : List ToldAnswer) → t.process ≢ p
    → told_to (told_behind t xs) p ≡ told_to xs p
    → told_to (cond b (t ∷ x ∷ xs) (x ∷ told_behind t xs)) p ≡ told_to (x ∷ xs) p
other_part_at p true t x xs ne rest = part_no p t (x ∷ xs) ne
other_part_at p false t x xs ne rest = ap (λ l. cond (x.process == p) (x ∷ l) l) rest

-- an answer of another process
other_part : (p : ℕ) (t : ToldAnswer) (xs : List ToldAnswer) → t.process ≢ p
    → told_to (told_behind t xs) p ≡ told_to xs p
other_part p t [] ne = part_no p t [] ne
other_part p t (x ∷ xs) ne = other_part_at p (nat_lt t.process x.process) t x xs ne (other_part p t xs ne)

cond_end : (b : Bool) (x t : ToldAnswer) (l : List ToldAnswer)
    → cond b (x ∷ (l ++ t ∷ [])) (l ++ t ∷ []) ≡ cond b (x ∷ l) l ++ t ∷ []
cond_end true x t l = refl
cond_end false x t l = refl

own_part_at : (n p : ℕ) (b : Bool) (t x : ToldAnswer) (xs : List ToldAnswer) → nat_lt t.process x.process ≡ b
    → t.process ≡ p → Rises n (x ∷ xs) → told_to (told_behind t xs) p ≡ told_to xs p ++ t ∷ []
    → told_to (cond b (t ∷ x ∷ xs) (x ∷ told_behind t xs)) p ≡ told_to (x ∷ xs) p ++ t ∷ []
own_part_at n p true t x xs e is h rest =
    let first = below_test t.process x.process e in
    let none : told_to (x ∷ xs) p ≡ [] = part_none p (x ∷ xs) (λ u k. elim k [ inl same ↦ (let s = ap (λ (v : ToldAnswer). v.process) same in omega (arith, s, first, is)) | inr there ↦ (let l = h.1 u there in omega (arith, l, first, is)) ]) in
    part_yes p t (x ∷ xs) is ∙ ap (λ l. t ∷ l) none ∙ sym (ap (λ l. l ++ t ∷ []) none)
own_part_at n p false t x xs e is h rest =
    ap (λ l. cond (x.process == p) (x ∷ l) l) rest ∙ cond_end (x.process == p) x t (told_to xs p)

-- an answer of this process
own_part : (n p : ℕ) (t : ToldAnswer) (xs : List ToldAnswer) → t.process ≡ p → Rises n xs
    → told_to (told_behind t xs) p ≡ told_to xs p ++ t ∷ []
own_part n p t [] is h = part_yes p t [] is
own_part n p t (x ∷ xs) is h = own_part_at n p (nat_lt t.process x.process) t x xs refl is h (own_part n p t xs is h.2)

cond_none : (b : Bool) → cond {A = List ToldAnswer} b [] [] ≡ []
cond_none true = refl
cond_none false = refl

part_behind : (n q : ℕ) (b : Bool) (t : ToldAnswer) (told : List ToldAnswer) → Rises n told
    → told_to (cond b (told_behind t told) told) q ≡ told_to told q ++ cond (t.process == q) (cond b (t ∷ []) []) []
part_behind n q false t told h =
    sym (append-nil (told_to told q)) ∙ ap (λ l. told_to told q ++ l) (sym (cond_none (t.process == q)))
part_behind n q true t told h = elim (cases_eq t.process q) [
  | inl is ↦ own_part n q t told is h ∙ ap (λ b. told_to told q ++ cond b (t ∷ []) []) (sym (same_test t.process q is))
  | inr ne ↦ other_part q t told ne ∙ sym (append-nil (told_to told q)) ∙ ap (λ b. told_to told q ++ cond b (t ∷ []) []) (sym (other_test t.process q ne))
]

-- an answer that tells stands behind what its process was told, and nothing is added elsewhere
pub part_after : (n q : ℕ) (op : Op) (id : OpId) (answer : Answer) (told : List ToldAnswer) → Rises n told
    → told_to (told_after op id answer told) q ≡ told_to told q ++ cond (id.process == q) (told_in op id answer) []
part_after n q op id answer told h =
    part_behind n q (tells op) (record { process = id.process; number = id.number; answer = answer }) told h

parts_none : (n a : ℕ) → flat_map (told_to []) (range_with_len a n) ≡ []
parts_none zero a = refl
parts_none (suc n) a = parts_none n (a + 1)

-- of the processes behind the first answer's
parts_past : (n a : ℕ) (x : ToldAnswer) (xs : List ToldAnswer) → x.process < a
    → flat_map (told_to (x ∷ xs)) (range_with_len a n) ≡ flat_map (told_to xs) (range_with_len a n)
parts_past zero a x xs lt = refl
parts_past (suc n) a x xs lt = ap₂ (λ (k l : List ToldAnswer). k ++ l) (part_no a x xs (λ e. omega (arith, e, lt))) (parts_past n (a + 1) x xs (omega arith))

parts_more : (n a : ℕ) (x : ToldAnswer) (xs : List ToldAnswer) → ((u : ToldAnswer) → In u xs → x.process ≤ u.process)
    → a ≤ x.process → x.process < a + n
    → flat_map (told_to (x ∷ xs)) (range_with_len a n) ≡ x ∷ flat_map (told_to xs) (range_with_len a n)
parts_more zero a x xs h le lt = absurd (omega arith)
parts_more (suc n) a x xs h le lt = elim (cases_eq x.process a) [
  | inl e ↦ ap₂ (λ (k l : List ToldAnswer). k ++ l) (part_yes a x xs e) (parts_past n (a + 1) x xs (omega (arith, e)))
  | inr ne ↦
      let none : told_to xs a ≡ [] = part_none a xs (λ u k. let l = h u k in omega (arith, l, le, ne)) in
      ap₂ (λ (k l : List ToldAnswer). k ++ l) (part_no a x xs ne ∙ none) (parts_more n (a + 1) x xs h (omega (arith, le, ne)) (omega (arith, lt))) ∙ sym (ap (λ k. x ∷ (k ++ flat_map (told_to xs) (range_with_len (a + 1) n))) none)
]

parts : (n : ℕ) (xs : List ToldAnswer) → Rises n xs → flat_map (told_to xs) (range_with_len 0 n) ≡ xs
parts n [] h = parts_none n 0
parts n (x ∷ xs) h =
    parts_more n 0 x xs h.1 (omega arith) (let l = h.0 in omega (arith, l)) ∙ ap (λ l. x ∷ l) (parts n xs h.2)

-- what a stage tells is what each process was told, by rising process
pub by_process : (scripts : List (List Op)) (registers : ℕ) (turns : List ℕ) (s : Stage)
    → Leads scripts registers turns s → s.told ≡ flat_map (told_to s.told) (range_with_len 0 (length scripts))
by_process scripts registers turns s leads = sym (parts (length scripts) s.told (rises scripts registers turns s leads))
