-- Operations that do no harm: where the entries that follow can be gone through, they can be with such operations
-- placed
-- besides.
use Rattle.std.proofs.Common.{◌≡◌, ◌⊎◌, inl, inr, ℕ, suc, List, ◌∷◌, Option, Some, None, refl, ap, sym, ◌∙◌, subst}
use Rattle.std.specs.Option.{unwrap_or}
use Rattle.std.proofs.lemmas.Bool.{cases_eq}
use Rattle.std.proofs.lemmas.Option.{same_Some}
use Rattle.reg_base.specs.declared.memory.OpId.{OpId}
use Rattle.reg_base.specs.declared.memory.Op.{Op}
use Rattle.reg_base.specs.declared.memory.Answer.{Answer}
use Rattle.reg_checkers.specs.declared.entries.Entry.{Entry}
use Rattle.reg_checkers.specs.declared.entries.Entry.TheVariants.{Called, Answered}
use Rattle.reg_judge.specs.declared.acts.Act.{Act}
use Rattle.reg_judge.specs.declared.acts.Ask.{Ask}
use Rattle.reg_judge.specs.declared.acts.Ask.TheVariants.{Anything, Just, AllBut}
use Rattle.reg_judge.specs.Acts.{Heeds, Suits, value_after}
use Rattle.reg_judge.specs.Completing.{Answers, Calls, Completes, Covers, Elsewhere, Ends, IsFree, IsOn, IsUnneeded}
use Rattle.reg_judge.specs.Completing.{Places, Running, put}
use Rattle.reg_judge.proofs.Puts.{none_some, put_here, put_there}

-- what may come at a value that it doesn't heed, may come at any
suits_any : (ask : Ask) (v : ℕ) → Suits ask v → ¬ Heeds ask v → (w : ℕ) → Suits ask w
suits_any Anything v suits not w = tt
suits_any (Just u) v suits not w = absurd (not (inl (ap (λ (x : ℕ). Some (Some x)) suits)))
suits_any (AllBut u) v suits not w = absurd (not (inr refl))

module _ (r : ℕ) (act : OpId → Option Act) where
  -- more operations may be placed
  pub longer : {n : ℕ} {run : Running} {placed : ℕ → ℕ} {v : ℕ} {es : List Entry} → Completes r act n run placed v es
      → Completes r act (suc n) run placed v es
  longer Ends = Ends
  longer (Places p a here on free fits rest) = Places p a here on free fits (longer rest)
  longer (Calls at id op idle rest) = Calls at id op idle (longer rest)
  longer (Answers at id answer on is rest) = Answers at id answer on is (longer rest)
  longer (Elsewhere at id answer off rest) = Elsewhere at id answer off (longer rest)

  -- what none needs, it still does not when less is to come
  unneeded_call : (run : Running) (es : List Entry) (u at : ℕ) (id : OpId) (op : Op) → IsUnneeded r act run (Called at id op ∷ es) u → IsUnneeded r act (put run id.process (act id)) es u
  unneeded_call run es u at id op none = record {
    running = λ p a here on. elim (cases_eq p id.process) [
      | inl is ↦ none.later 0 at id op a refl (sym (put_here run id.process (act id) p is) ∙ here) on
      | inr apart ↦ none.running p a (sym (put_there run id.process (act id) p apart) ∙ here) on
    ];
    later = λ k t x o a there. none.later (suc k) t x o a there;
  }

  unneeded_answer : (run : Running) (es : List Entry) (u at : ℕ) (id : OpId) (answer : Answer) → IsUnneeded r act run (Answered at id answer ∷ es) u → IsUnneeded r act (put run id.process None) es u
  unneeded_answer run es u at id answer none = record {
    running = λ p a here on. elim (cases_eq p id.process) [
      | inl is ↦ absurd (none_some (put run id.process None p) a (put_here run id.process None p is) here)
      | inr apart ↦ none.running p a (sym (put_there run id.process None p apart) ∙ here) on
    ];
    later = λ k t x o a there. none.later (suc k) t x o a there;
  }

  -- a value that none needs may be another
  pub any_value : {n : ℕ} {run : Running} {placed : ℕ → ℕ} {v : ℕ} {es : List Entry} → Completes r act n run placed v es
      → IsUnneeded r act run es v → (w : ℕ) → Completes r act n run placed w es
  any_value Ends none w = Ends
  any_value {v = v} (Places {n = n} {run = run} {placed = placed} {es = es} p a here on free fits rest) none w = go a.makes refl (λ unneeded. any_value rest unneeded w)
    where
      go : (makes : Option ℕ) → a.makes ≡ makes → (IsUnneeded r act run es (value_after a v) → Completes r act n run (put placed p 1) w es) → Completes r act (suc n) run placed w es
      go None made again =
          let same : value_after a v ≡ v = ap (λ (o : Option ℕ). unwrap_or o v) made in
          let other : value_after a w ≡ w = ap (λ (o : Option ℕ). unwrap_or o w) made in
          let from = again (subst (λ (x : ℕ). IsUnneeded r act run es x) (sym same) none) in
          Places p a here on free (suits_any a.asks v fits (none.running p a here on) w) (subst (λ (x : ℕ). Completes r act n run (put placed p 1) x es) (sym other) from)
      go (Some u) made again =
          let same : value_after a v ≡ u = ap (λ (o : Option ℕ). unwrap_or o v) made in
          let other : value_after a w ≡ u = ap (λ (o : Option ℕ). unwrap_or o w) made in
          Places p a here on free (suits_any a.asks v fits (none.running p a here on) w) (subst (λ (x : ℕ). Completes r act n run (put placed p 1) x es) (same ∙ sym other) rest)
  any_value (Calls {run = run} {v = v} {es = es} at id op idle rest) none w = Calls at id op idle (any_value rest (unneeded_call run es v at id op none) w)
  any_value (Answers {run = run} {v = v} {es = es} at id answer on is rest) none w = Answers at id answer on is (any_value rest (unneeded_answer run es v at id answer none) w)
  any_value (Elsewhere {run = run} {v = v} {es = es} at id answer off rest) none w = Elsewhere at id answer off (any_value rest (unneeded_answer run es v at id answer none) w)

  free_call : (run : Running) (es : List Entry) (at : ℕ) (id : OpId) (op : Op) (a : Act) → IsFree r act run (Called at id op ∷ es) a → IsFree r act (put run id.process (act id)) es a
  free_call run es at id op a (inl none) = inl none
  free_call run es at id op a (inr (needs, makes)) = inr (needs, λ u is. unneeded_call run es u at id op (makes u is))

  free_answer : (run : Running) (es : List Entry) (at : ℕ) (id : OpId) (answer : Answer) (a : Act) → IsFree r act run (Answered at id answer ∷ es) a → IsFree r act (put run id.process None) es a
  free_answer run es at id answer a (inl none) = inl none
  free_answer run es at id answer a (inr (needs, makes)) = inr (needs, λ u is. unneeded_answer run es u at id answer (makes u is))

  covers_call : (run : Running) (es : List Entry) (few more : ℕ → ℕ) (at : ℕ) (id : OpId) (op : Op) → run id.process ≡ None → Covers r act run (Called at id op ∷ es) few more → Covers r act (put run id.process (act id)) es few more
  covers_call run es few more at id op idle covers p = elim (covers p) [
    | inl same ↦ inl same
    | inr (none, one, (a, here, on, free)) ↦ elim (cases_eq p id.process) [
      | inl is ↦ absurd (none_some (run p) a (ap run is ∙ idle) here)
      | inr apart ↦ inr (none, one, (a, put_there run id.process (act id) p apart ∙ here, on, free_call run es at id op a free))
    ]
  ]

  covers_answer : (run : Running) (es : List Entry) (few more : ℕ → ℕ) (at : ℕ) (id : OpId) (answer : Answer) → few id.process ≡ 1 → Covers r act run (Answered at id answer ∷ es) few more → Covers r act (put run id.process None) es (put few id.process 0) (put more id.process 0)
  covers_answer run es few more at id answer one covers p = elim (cases_eq p id.process) [
    | inl is ↦ inl (put_here more id.process 0 p is ∙ sym (put_here few id.process 0 p is))
    | inr apart ↦ elim (covers p) [
      | inl same ↦ inl (put_there more id.process 0 p apart ∙ same ∙ sym (put_there few id.process 0 p apart))
      | inr (none, is_one, (a, here, on, free)) ↦ inr (put_there few id.process 0 p apart ∙ none, put_there more id.process 0 p apart ∙ is_one, (a, put_there run id.process None p apart ∙ here, on, free_answer run es at id answer a free))
    ]
  ]

  covers_elsewhere : (run : Running) (es : List Entry) (few more : ℕ → ℕ) (at : ℕ) (id : OpId) (answer : Answer) → ¬ IsOn r run id.process → Covers r act run (Answered at id answer ∷ es) few more → Covers r act (put run id.process None) es few more
  covers_elsewhere run es few more at id answer off covers p = elim (covers p) [
    | inl same ↦ inl same
    | inr (none, is_one, (a, here, on, free)) ↦ elim (cases_eq p id.process) [
      | inl is ↦ absurd (off (a, subst (λ q. run q ≡ Some a) is here, on))
      | inr apart ↦ inr (none, is_one, (a, put_there run id.process None p apart ∙ here, on, free_answer run es at id answer a free))
    ]
  ]

  covers_place : (run : Running) (es : List Entry) (few more : ℕ → ℕ) (p : ℕ) → Covers r act run es few more → Covers r act run es (put few p 1) (put more p 1)
  covers_place run es few more p covers q = elim (cases_eq q p) [
    | inl is ↦ inl (put_here more p 1 q is ∙ sym (put_here few p 1 q is))
    | inr apart ↦ elim (covers q) [
      | inl same ↦ inl (put_there more p 1 q apart ∙ same ∙ sym (put_there few p 1 q apart))
      | inr (none, one, rest) ↦ inr (put_there few p 1 q apart ∙ none, put_there more p 1 q apart ∙ one, rest)
    ]
  ]

  covers_placed : (run : Running) (es : List Entry) (few more : ℕ → ℕ) (p : ℕ) → more p ≡ 1 → Covers r act run es few more → Covers r act run es (put few p 1) more
  covers_placed run es few more p is_one covers q = elim (cases_eq q p) [
    | inl is ↦ inl (ap more is ∙ is_one ∙ sym (put_here few p 1 q is))
    | inr apart ↦ elim (covers q) [
      | inl same ↦ inl (same ∙ sym (put_there few p 1 q apart))
      | inr (none, one, rest) ↦ inr (put_there few p 1 q apart ∙ none, one, rest)
    ]
  ]

  same_put : {X : Type 0} (f g : ℕ → X) (p : ℕ) (x : X) → ((q : ℕ) → g q ≡ f q) → (q : ℕ) → put g p x q ≡ put f p x q
  same_put f g p x same q = elim (cases_eq q p) [
    | inl is ↦ put_here g p x q is ∙ sym (put_here f p x q is)
    | inr apart ↦ put_there g p x q apart ∙ same q ∙ sym (put_there f p x q apart)
  ]

  unneeded_same : (run other : Running) (es : List Entry) (u : ℕ) → ((q : ℕ) → other q ≡ run q) → IsUnneeded r act run es u → IsUnneeded r act other es u
  unneeded_same run other es u same none = record { running = λ p a here on. none.running p a (sym (same p) ∙ here) on; later = none.later }

  -- where an operation that does no harm is placed already, no more is to be done
  harmless : (n : ℕ) (run other : Running) (placed : ℕ → ℕ) (v : ℕ) (es : List Entry) (a : Act) → ((q : ℕ) → other q ≡ run q) → IsFree r act run es a → Completes r act n other placed (value_after a v) es → Completes r act (suc n) other placed v es
  harmless n run other placed v es a same free rest = go a.makes refl free
    where
      go : (makes : Option ℕ) → a.makes ≡ makes → IsFree r act run es a → Completes r act (suc n) other placed v es
      go None made _ = longer (subst (λ (x : ℕ). Completes r act n other placed x es) (ap (λ (o : Option ℕ). unwrap_or o v) made) rest)
      go (Some u) made (inl none) = absurd (none_some a.makes u none made)
      go (Some u) made (inr (needs, unneeded)) =
          let at : Completes r act n other placed u es = subst (λ (x : ℕ). Completes r act n other placed x es) (ap (λ (o : Option ℕ). unwrap_or o v) made) rest in
          longer (any_value at (unneeded_same run other es u same (unneeded u made)) v)

  pub covering : {n : ℕ} {run : Running} {placed : ℕ → ℕ} {v : ℕ} {es : List Entry} → Completes r act n run placed v es
      → (other : Running) → ((q : ℕ) → other q ≡ run q) → (more : ℕ → ℕ) → Covers r act run es placed more
      → Completes r act n other more v es
  covering Ends other same more covers = Ends
  covering (Places {n = n} {run = run} {placed = placed} {v = v} {es = es} p a here on free fits rest) other same more covers = elim (covers p) [
    | inl agree ↦ Places p a (same p ∙ here) on (agree ∙ free) fits (covering rest other same (put more p 1) (covers_place run es placed more p covers))
    | inr (none, one, (b, there, b_on, b_free)) ↦
        let e : b ≡ a = same_Some b a (sym there ∙ here) in
        harmless n run other more v es a same (subst (λ (x : Act). IsFree r act run es x) e b_free) (covering rest other same more (covers_placed run es placed more p one covers))
  ]
  covering (Calls {run = run} {placed = placed} {es = es} at id op idle rest) other same more covers = Calls at id op (same id.process ∙ idle) (covering rest (put other id.process (act id)) (same_put run other id.process (act id) same) more (covers_call run es placed more at id op idle covers))
  covering (Answers {run = run} {placed = placed} {es = es} at id answer on is rest) other same more covers =
      Answers at id answer (on.0, same id.process ∙ on.1, on.2) (one_more (covers id.process)) (covering rest (put other id.process None) (same_put run other id.process None same) (put more id.process 0) (covers_answer run es placed more at id answer is covers))
    where
      one_more : (more id.process ≡ placed id.process) ⊎ ((placed id.process ≡ 0) × (more id.process ≡ 1) × ((a : Act) × (run id.process ≡ Some a) × (a.register ≡ r) × IsFree r act run (Answered at id answer ∷ es) a)) → more id.process ≡ 1
      one_more (inl agree) = agree ∙ is
      one_more (inr both) = both.1
  covering (Elsewhere {run = run} {placed = placed} {es = es} at id answer off rest) other same more covers = Elsewhere at id answer (λ on. off (on.0, sym (same id.process) ∙ on.1, on.2)) (covering rest (put other id.process None) (same_put run other id.process None same) more (covers_elsewhere run es placed more at id answer off covers))
