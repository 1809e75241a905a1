-- One entry more: from what goes on through it to what goes on after it.
use Rattle.std.proofs.Common.{◌≡◌, ◌≢◌, ◌⊎◌, inl, inr, ℕ, suc, List, ◌∷◌, Option, Some, None, true, refl, ap, sym, ◌∙◌}
use Rattle.std.proofs.Common.{subst, arith}
use Rattle.std.specs.Int.{bit_at}
use Rattle.std.proofs.lemmas.Bool.{cases_eq}
use Rattle.std.proofs.lemmas.Nat.Bits.{bit_at-lt}
use Rattle.reg_base.specs.declared.memory.OpId.{OpId}
use Rattle.reg_base.specs.declared.memory.Op.{Op}
use Rattle.reg_base.specs.declared.memory.Answer.{Answer}
use Rattle.reg_checkers.specs.declared.entries.Entry.{Entry}
use Rattle.reg_checkers.specs.declared.entries.Entry.TheVariants.{Called, Answered}
use Rattle.reg_checkers.specs.History.{IsAt}
use Rattle.reg_judge.specs.declared.acts.Act.{Act}
use Rattle.reg_judge.specs.declared.stages.Mover.{Mover}
use Rattle.reg_judge.specs.declared.stages.Stage.{Stage}
use Rattle.reg_judge.specs.Acts.{Fits, value_after}
use Rattle.reg_judge.specs.Completing.{Answers, Calls, Completes, Covers, Elsewhere, IsFree, IsOn, Places, Running, put}
use Rattle.reg_judge.specs.Stages.{AreDone, AreMovers, HasHarmless, IsAlive, IsDone, Keeps, Reads, Settles}
use Rattle.reg_judge.proofs.Puts.{none_some, put_here, put_there}
use Rattle.reg_judge.proofs.Covering.{covering}

-- a bit is 0 or 1
pub bit_cases : (n q : ℕ) → (bit_at n q ≡ 0) ⊎ (bit_at n q ≡ 1)
bit_cases n q = elim (cases_eq (bit_at n q) 0) [
  | inl is ↦ inl is
  | inr not ↦ inr (let lt = bit_at-lt n q in omega (arith, lt, not))
]

module _ (r : ℕ) (act : OpId → Option Act) where
  -- what is placed may be told by another function
  pub same_placed : {n : ℕ} {run : Running} {placed : ℕ → ℕ} {v : ℕ} {es : List Entry}
      → Completes r act n run placed v es → (other : ℕ → ℕ) → ((q : ℕ) → other q ≡ placed q)
      → Completes r act n run other v es
  same_placed {run = run} completes other same = covering r act completes run (λ q. refl) other (λ q. inl (same q))

  -- an answer to what is placed
  pub after_answer : {n : ℕ} {run : Running} {placed : ℕ → ℕ} {v : ℕ} {es : List Entry} (t : ℕ) (x : OpId)
      (answer : Answer)
      → Completes r act n run placed v (Answered t x answer ∷ es) → IsOn r run x.process → placed x.process ≡ 1
      → Completes r act n (put run x.process None) (put placed x.process 0) v es
  after_answer {placed = placed} t x answer (Places {n = n} {run = run} {v = v} {es = _} p a here on free fits rest) is one =
      let apart : p ≢ x.process = λ e. (let z : placed x.process ≡ 0 = ap placed (sym e) ∙ free in omega (arith, z, one)) in
      let again = after_answer t x answer rest is (put_there placed p 1 x.process (λ e. apart (sym e)) ∙ one) in
      Places p a (put_there run x.process None p apart ∙ here) on (put_there placed x.process 0 p apart ∙ free) fits (same_placed again (put (put placed x.process 0) p 1) (swapped placed p x.process apart))
    where
      swapped : (f : ℕ → ℕ) (p q : ℕ) → p ≢ q → (y : ℕ) → put (put f q 0) p 1 y ≡ put (put f p 1) q 0 y
      swapped f p q apart y = elim (cases_eq y p) [
        | inl is ↦ put_here (put f q 0) p 1 y is ∙ sym (put_there (put f p 1) q 0 y (λ e. apart (sym is ∙ e)) ∙ put_here f p 1 y is)
        | inr not ↦ elim (cases_eq y q) [
          | inl e ↦ put_there (put f q 0) p 1 y not ∙ put_here f q 0 y e ∙ sym (put_here (put f p 1) q 0 y e)
          | inr other ↦ put_there (put f q 0) p 1 y not ∙ put_there f q 0 y other ∙ sym (put_there (put f p 1) q 0 y other ∙ put_there f p 1 y not)
        ]
      ]
  after_answer t x answer (Answers at id other on is_one rest) is one = rest
  after_answer t x answer (Elsewhere at id other off rest) is one = absurd (off is)

  -- an answer to what runs on another register
  pub after_other : {n : ℕ} {run : Running} {placed : ℕ → ℕ} {v : ℕ} {es : List Entry} (t : ℕ) (x : OpId)
      (answer : Answer)
      → Completes r act n run placed v (Answered t x answer ∷ es) → ¬ IsOn r run x.process
      → Completes r act n (put run x.process None) placed v es
  after_other t x answer (Places {run = run} p a here on free fits rest) not =
      let apart : p ≢ x.process = λ e. not (a, ap run (sym e) ∙ here, on) in
      Places p a (put_there run x.process None p apart ∙ here) on free fits (after_other t x answer rest not)
  after_other t x answer (Answers at id other on is_one rest) not = absurd (not on)
  after_other t x answer (Elsewhere at id other off rest) not = rest

  -- a process that calls runs nothing
  pub idle_at_call : {n : ℕ} {run : Running} {placed : ℕ → ℕ} {v : ℕ} {es : List Entry} (t : ℕ) (x : OpId) (op : Op)
      → Completes r act n run placed v (Called t x op ∷ es) → run x.process ≡ None
  idle_at_call t x op (Places p a here on free fits rest) = idle_at_call t x op rest
  idle_at_call t x op (Calls at id other idle rest) = idle

  -- a call
  pub after_call : {n : ℕ} {run : Running} {placed : ℕ → ℕ} {v : ℕ} {es : List Entry} (t : ℕ) (x : OpId) (op : Op)
      → Completes r act n run placed v (Called t x op ∷ es) → Completes r act n (put run x.process (act x)) placed v es
  after_call t x op (Places {run = run} p a here on free fits rest) =
      let idle = idle_at_call t x op rest in
      let apart : p ≢ x.process = λ e. none_some (run p) a (ap run e ∙ idle) here in
      Places p a (put_there run x.process (act x) p apart ∙ here) on free fits (after_call t x op rest)
  after_call t x op (Calls at id other idle rest) = rest

  -- what settles covers
  module _ (run : Running) (es : List Entry) (movers : List Mover) (are : AreMovers r act run es movers) where
    covers_settled : (placed : ℕ → ℕ) (more : ℕ) → ((q : ℕ) → (placed q ≡ 0) ⊎ (placed q ≡ 1)) → Settles movers placed more → Covers r act run es placed (bit_at more)
    covers_settled placed more bits settles q = go (settles q) (bits q)
      where
        free : (m : Mover) (i : ℕ) → IsAt movers i m → (m.act.makes ≡ None) ⊎ (m.free ≡ true) → IsFree r act run es m.act
        free m i here (inl none) = inl none
        free m i here (inr is) = are.free i m here is

        go : (bit_at more q ≡ placed q) ⊎ ((bit_at more q ≡ 1) × HasHarmless movers q) → (placed q ≡ 0) ⊎ (placed q ≡ 1) → (bit_at more q ≡ placed q) ⊎ ((placed q ≡ 0) × (bit_at more q ≡ 1) × ((a : Act) × (run q ≡ Some a) × (a.register ≡ r) × IsFree r act run es a))
        go (inl same) bit = inl same
        go (inr (one, harmless)) (inr is) = inl (one ∙ sym is)
        go (inr (one, (i, m, here, of, harm))) (inl is) = inr (is, one, (m.act, ap run (sym of) ∙ (are.each i m here).0, (are.each i m here).1, free m i here harm))

    put_bits : (n p : ℕ) (q : ℕ) → (put (bit_at n) p 1 q ≡ 0) ⊎ (put (bit_at n) p 1 q ≡ 1)
    put_bits n p q = elim (cases_eq q p) [
      | inl is ↦ inr (put_here (bit_at n) p 1 q is)
      | inr apart ↦ elim (bit_cases n q) [
        | inl none ↦ inl (put_there (bit_at n) p 1 q apart ∙ none)
        | inr one ↦ inr (put_there (bit_at n) p 1 q apart ∙ one)
      ]
    ]

  -- where all that operations make is there, some stage goes on at which the process of the answer is placed
  module _ (run : Running) (t : ℕ) (x : OpId) (answer : Answer) (rest : List Entry) (movers : List Mover) (are : AreMovers r act run (Answered t x answer ∷ rest) movers) (is : IsOn r run x.process) (stages : List Stage) (done : AreDone movers x.process stages) where
    CanAnswer : Type 0
    CanAnswer = (l : ℕ) × (u : Stage) × IsAt stages l u × (bit_at u.placed x.process ≡ 1) × ((m : ℕ) × Completes r act m run (bit_at u.placed) u.value (Answered t x answer ∷ rest))

    answerable : (n j : ℕ) (s : Stage) → IsAt stages j s → (bit_at s.placed x.process ≡ 0) ⊎ (bit_at s.placed x.process ≡ 1) → IsDone movers x.process stages s → Completes r act n run (bit_at s.placed) s.value (Answered t x answer ∷ rest) → CanAnswer
    unfolding CanAnswer
    answerable n j s here (inr one) _ completes = (j, s, here, one, (n, completes))
    answerable n j s here (inl none) (inl one) completes = absurd (omega (arith, none, one))
    answerable (suc n) j s here (inl none) (inr all) (Places p a runs on free fits more) =
        let there = are.all p a runs on in
        let m : Mover = there.1 in
        let after = all there.0 m there.2 ((ap (bit_at s.placed) there.3 ∙ free), subst (λ (b : Act). Fits b s.value) (sym there.4) fits) in
        let u : Stage = after.1 in
        let settles : Settles movers (put (bit_at s.placed) p 1) u.placed = subst (λ (q : ℕ). Settles movers (put (bit_at s.placed) q 1) u.placed) there.3 after.3.1 in
        let value : u.value ≡ value_after a s.value = after.3.0 ∙ ap (λ (b : Act). value_after b s.value) there.4 in
        let covers = covers_settled run (Answered t x answer ∷ rest) movers are (put (bit_at s.placed) p 1) u.placed (put_bits run (Answered t x answer ∷ rest) movers are s.placed p) settles in
        let goes : Completes r act n run (bit_at u.placed) (value_after a s.value) (Answered t x answer ∷ rest) = covering r act more run (λ q. refl) (bit_at u.placed) covers in
        answerable n after.0 u after.2 (bit_cases u.placed x.process) (done after.0 u after.2) (subst (λ (v : ℕ). Completes r act n run (bit_at u.placed) v (Answered t x answer ∷ rest)) (sym value) goes)
    answerable n j s here (inl none) (inr all) (Answers at id other on one more) = absurd (omega (arith, none, one))
    answerable n j s here (inl none) (inr all) (Elsewhere at id other off more) = absurd (off is)

    -- so where the answer is taken at each of these, some stage goes on after it
    pub alive_after_answer : (old new : List Stage) → ((j : ℕ) (s : Stage) → IsAt old j s → (l : ℕ) × (u : Stage) × IsAt stages l u × (u.placed ≡ s.placed) × (u.value ≡ s.value)) → Keeps x.process stages new → IsAlive r act run (Answered t x answer ∷ rest) old → IsAlive r act (put run x.process None) rest new
    unfolding CanAnswer
    alive_after_answer old new there keeps (n, j, s, here, completes) =
        let found = there j s here in
        let u : Stage = found.1 in
        let same : Completes r act n run (bit_at u.placed) u.value (Answered t x answer ∷ rest) = subst (λ (v : ℕ). Completes r act n run (bit_at u.placed) v (Answered t x answer ∷ rest)) (sym found.4) (subst (λ (b : ℕ). Completes r act n run (bit_at b) s.value (Answered t x answer ∷ rest)) (sym found.3) completes) in
        let can = answerable n found.0 u found.2 (bit_cases u.placed x.process) (done found.0 u found.2) same in
        let w : Stage = can.1 in
        let kept = keeps can.0 w can.2 can.3 in
        let y : Stage = kept.1 in
        let after = after_answer t x answer can.4.1 is can.3 in
        (can.4.0, kept.0, y, kept.2, subst (λ (v : ℕ). Completes r act can.4.0 (put run x.process None) (bit_at y.placed) v rest) (sym kept.3) (same_placed after (bit_at y.placed) kept.4))

  -- and where it is answered on another register
  pub alive_after_other : (run : Running) (t : ℕ) (x : OpId) (answer : Answer) (rest : List Entry) (stages : List Stage)
      → ¬ IsOn r run x.process → IsAlive r act run (Answered t x answer ∷ rest) stages
      → IsAlive r act (put run x.process None) rest stages
  alive_after_other run t x answer rest stages not (n, j, s, here, completes) = (n, j, s, here, after_other t x answer completes not)

  -- a call
  pub alive_after_call : (run : Running) (t : ℕ) (x : OpId) (op : Op) (rest : List Entry) (stages : List Stage)
      → IsAlive r act run (Called t x op ∷ rest) stages → IsAlive r act (put run x.process (act x)) rest stages
  alive_after_call run t x op rest stages (n, j, s, here, completes) = (n, j, s, here, after_call t x op completes)

  -- a read on this register that is placed where it fits
  pub alive_after_reads : (run : Running) (x : OpId) (a : Act) (rest : List Entry) (old new : List Stage)
      → run x.process ≡ Some a → a.register ≡ r → a.makes ≡ None → Reads x.process old new → IsAlive r act run rest old
      → IsAlive r act run rest new
  alive_after_reads run x a rest old new runs on reads more (n, j, s, here, completes) =
      let read = more j s here in
      let u : Stage = read.0 in
      (n, j, u, read.1, subst (λ (v : ℕ). Completes r act n run (bit_at u.placed) v rest) (sym read.2.0) (covering r act completes run (λ q. refl) (bit_at u.placed) (λ q. covers u q (read.2.1 q) (bit_cases s.placed q))))
    where
      covers : (u : Stage) (q : ℕ) → (bit_at u.placed q ≡ bit_at s.placed q) ⊎ ((q ≡ x.process) × (bit_at u.placed q ≡ 1)) → (bit_at s.placed q ≡ 0) ⊎ (bit_at s.placed q ≡ 1) → (bit_at u.placed q ≡ bit_at s.placed q) ⊎ ((bit_at s.placed q ≡ 0) × (bit_at u.placed q ≡ 1) × ((b : Act) × (run q ≡ Some b) × (b.register ≡ r) × IsFree r act run rest b))
      covers u q (inl same) bit = inl same
      covers u q (inr (e, one)) (inr is) = inl (one ∙ sym is)
      covers u q (inr (e, one)) (inl none) = inr (none, one, (a, ap run e ∙ runs, on, inl reads))
