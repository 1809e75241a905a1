-- The passes over points, and what they say of the history.
use Rattle.std.proofs.Common.{◌≡◌, ℕ, zero, suc, ◌+◌, ◌-◌, ◌<◌, ◌≤◌, ◌⊎◌, inl, inr, List, [], ◌∷◌, length, get_or}
use Rattle.std.proofs.Common.{Option, MatchOption, slice_get, refl, ap, sym, ◌∙◌, subst, arith}
use Rattle.std.specs.List.{AllZip}
use Rattle.std.proofs.lemmas.Option.{same_Some, slice_get_within, slice_get-get_or}
use Rattle.std.proofs.lemmas.Bool.{cases_order, cases_lt}
use Rattle.std.proofs.lemmas.List.{length-map}
use Rattle.reg_base.specs.declared.memory.OpId.{OpId}
use Rattle.reg_base.specs.declared.memory.Op.{Op}
use Rattle.reg_base.specs.declared.memory.Answer.{Answer}
use Rattle.reg_checkers.specs.declared.entries.Entry.{Entry}
use Rattle.reg_checkers.specs.declared.entries.Point.{Point}
use Rattle.reg_checkers.specs.History.{IsAt, IsCalled, IsAnswered, IsFinished, IsHistory}
use Rattle.reg_checkers.specs.Checks.{IsOutside, IsFalling, IsFirst, IsPointFault, ids_of}
use Rattle.reg_checkers.specs.Facts.{IsFactOf, AreFacts, IsBeside, IsOutsideFact}
use Rattle.reg_checkers.specs.Selections.{IsSelectionFault}
use Rattle.reg_checkers.specs.declared.faults.CheckFault.{CheckFault}
use Rattle.reg_checkers.specs.declared.faults.CheckFault.TheVariants.{Unknown, Twice, Missing, OwnOrder, Outside}
use Rattle.reg_checkers.specs.declared.faults.CheckFault.TheVariants.{Falling, OutOfMemory}
use Rattle.reg_checkers.proofs.Histories.{call_is, answer_is}
use Rattle.reg_checkers.proofs.Places.{IsAt-map, same_at, element_at}
use Rattle.reg_checkers.specs.declared.facts.Fact.{Fact}
use Rattle.reg_checkers.specs.declared.facts.Given.{Given}
use Rattle.reg_checkers.proofs.Bridges.{zip_right, has_given}

-- one more place of which it does not hold
pub none_more : (P : ℕ → Type 0) (k : ℕ) → ((j : ℕ) → j < k → ¬ P j) → ¬ P k → (j : ℕ) → j < k + 1 → ¬ P j
none_more P k before here j lt p = go (cases_order j k)
  where
    go : (j ≡ k) ⊎ ((j < k) ⊎ (k < j)) → ⊥
    go (inl e) = here (subst P e p)
    go (inr (inl h)) = before j h p
    go (inr (inr h)) = omega arith

module _ (count registers : ℕ) (h : List Entry) (good : IsHistory count registers h) (ps : List Point) (facts : List Fact) (are : AreFacts h (ids_of ps) facts) where
  pub same_length : length facts ≡ length ps
  same_length = sym (length_all_zip' (ids_of ps) facts are) ∙ length-map ps (λ (p : Point). p.id)
    where
      length_all_zip' : (xs : List OpId) (ys : List Fact) → AllZip (IsFactOf h) xs ys → length xs ≡ length ys
      length_all_zip' [] [] all = refl
      length_all_zip' [] (y ∷ ys) all = absurd all
      length_all_zip' (x ∷ xs) [] all = absurd all
      length_all_zip' (x ∷ xs) (y ∷ ys) all = ap suc (length_all_zip' xs ys all.1)

  -- the point and the fact at a place are of one operation
  fact_of_point : (k : ℕ) (p : Point) (f : Fact) → IsAt ps k p → IsAt facts k f → IsFactOf h p.id f
  fact_of_point k p f at1 at2 =
      let found = zip_right (IsFactOf h) (ids_of ps) facts k p.id are (IsAt-map (λ (p : Point). p.id) ps k p at1) in
      subst (λ (g : Fact). IsFactOf h p.id g) (same_at facts k found.0 f found.1 at2) found.2

  pub outside_here : (k : ℕ) → IsOutsideFact ps facts k → IsOutside h ps k
  outside_here k (p, f, at1, at2, beside) = (p, at1, go beside)
    where
      fact : IsFactOf h p.id f
      fact = fact_of_point k p f at1 at2

      go : IsBeside p f → ((at : ℕ) × (op : Op) × IsCalled h p.id at op × (p.at < at)) ⊎ ((at : ℕ) × (answer : Answer) × IsAnswered h p.id at answer × (at < p.at))
      go (inl lt) = inl (f.called, f.op, fact.called, lt)
      go (inr (g, some, lt)) = inr (g.at, g.answer, subst (λ (o : Option Given). MatchOption o (¬ IsFinished h p.id) (λ r. IsAnswered h p.id r.at r.answer)) some fact.answered, lt)

  pub outside_there : (k : ℕ) → IsOutside h ps k → IsOutsideFact ps facts k
  outside_there k (p, at1, how) = (p, found.0, at1, there, go how)
    where
      found : (f : Fact) × IsAt facts k f × IsFactOf h p.id f
      found = zip_right (IsFactOf h) (ids_of ps) facts k p.id are (IsAt-map (λ (p : Point). p.id) ps k p at1)

      there : IsAt facts k found.0
      there = found.1

      go : ((at : ℕ) × (op : Op) × IsCalled h p.id at op × (p.at < at)) ⊎ ((at : ℕ) × (answer : Answer) × IsAnswered h p.id at answer × (at < p.at)) → IsBeside p found.0
      go (inl (t, op, is, lt)) = let e : t ≡ found.0.called = (call_is count registers h good p.id t found.0.called op found.0.op is found.2.called).0 in inl (omega arith)
      go (inr (t, a, is, lt)) =
          let g = has_given count registers h good (ids_of ps) facts are p.id found.0 found.2 t a is in
          let ans : IsAnswered h p.id g.0.at g.0.answer = subst (λ (o : Option Given). MatchOption o (¬ IsFinished h p.id) (λ r. IsAnswered h p.id r.at r.answer)) g.1 found.2.answered in
          let e : g.0.at ≡ t = (answer_is count registers h good p.id g.0.at t g.0.answer a ans is).0 in
          inr (g.0, g.1, omega arith)

  pub first_outside_is : (k : ℕ) → IsFirst (IsOutsideFact ps facts) k → IsFirst (IsOutside h ps) k
  first_outside_is k (here, before) = (outside_here k here, λ j lt o. before j lt (outside_there j o))

  no_more : {m n : ℕ} → (m < n) ⊎ (n ≤ m) → (m < n → ⊥) → n ≤ m
  no_more (inl lt) no_less = absurd (no_less lt)
  no_more (inr h) no_less = h

  pub inside_called : ((k : ℕ) → ¬ IsOutsideFact ps facts k) → (k : ℕ) (p : Point) (t : ℕ) (op : Op) → IsAt ps k p
      → IsCalled h p.id t op → t ≤ p.at
  inside_called none k p t op at is = no_more (cases_lt p.at t) (λ lt. none k (outside_there k (p, at, inl (t, op, is, lt))))

  pub inside_answered : ((k : ℕ) → ¬ IsOutsideFact ps facts k) → (k : ℕ) (p : Point) (t : ℕ) (a : Answer) → IsAt ps k p
      → IsAnswered h p.id t a → p.at ≤ t
  inside_answered none k p t a at is = no_more (cases_lt t p.at) (λ lt. none k (outside_there k (p, at, inr (t, a, is, lt))))

-- where no point falls below the one before, none falls
pub never_falls : (ps : List Point) → ((k : ℕ) → ¬ IsFalling ps k) → (i j : ℕ) (p q : Point) → IsAt ps i p → IsAt ps j q
    → i < j → p.at ≤ q.at
never_falls ps none i zero p q at1 at2 lt = absurd (omega arith)
never_falls ps none i (suc j) p q at1 at2 lt =
    let before : (c : Point) × IsAt ps j c = element_at ps j (let n : suc j < length ps = slice_get_within ps (suc j) q at2 in omega arith) in
    go before.0 before.1 (cases_order i j) (cases_lt q.at before.0.at) (never_falls ps none i j p before.0 at1 before.1)
  where
    go : (c : Point) → IsAt ps j c → (i ≡ j) ⊎ ((i < j) ⊎ (j < i)) → (q.at < c.at) ⊎ (c.at ≤ q.at) → (i < j → p.at ≤ c.at) → p.at ≤ q.at
    go c here order (inl falls) rec = absurd (none (suc j) (j, c, q, refl, here, at2, falls))
    go c here (inl e) (inr le) rec =
        let same : p ≡ c = same_at ps j p c (subst (λ (k : ℕ). IsAt ps k p) e at1) here in
        let n : p.at ≡ c.at = ap (λ (x : Point). x.at) same in
        omega arith
    go c here (inr (inl less)) (inr le) rec = let m : p.at ≤ c.at = rec less in omega arith
    go c here (inr (inr more)) (inr le) rec = absurd (omega arith)

pub selection_fault : (registers : ℕ) (h : List Entry) (ps : List Point) (f : CheckFault)
    → IsSelectionFault h (ids_of ps) f → IsPointFault registers h ps f
selection_fault registers h ps Unknown fault = fault
selection_fault registers h ps Twice fault = fault
selection_fault registers h ps Missing fault = fault
selection_fault registers h ps OwnOrder fault = fault
selection_fault registers h ps (CheckFault.Answer place) fault = absurd fault
selection_fault registers h ps (Outside place) fault = absurd fault
selection_fault registers h ps (Falling place) fault = absurd fault
selection_fault registers h ps OutOfMemory fault = fault

-- nothing is outside at a place where the code found nothing
pub not_outside_at : (ps : List Point) (facts : List Fact) (k : ℕ) (d : Point) (e : Fact) → k < length ps
    → length facts ≡ length ps → ¬ IsBeside (get_or ps k d) (get_or facts k e) → ¬ IsOutsideFact ps facts k
not_outside_at ps facts k d e lt same none (p, f, at1, at2, beside) =
    let one : p ≡ get_or ps k d = same_Some p (get_or ps k d) (sym at1 ∙ slice_get-get_or ps k d lt) in
    let two : f ≡ get_or facts k e = same_Some f (get_or facts k e) (sym at2 ∙ slice_get-get_or facts k e (omega arith)) in
    none (subst (λ (x : Point). IsBeside x (get_or facts k e)) one (subst (λ (y : Fact). IsBeside p y) two beside))

pub none_outside : (ps : List Point) (facts : List Fact) (n : ℕ) → length ps ≤ n
    → ((j : ℕ) → j < n → ¬ IsOutsideFact ps facts j) → (k : ℕ) → ¬ IsOutsideFact ps facts k
none_outside ps facts n le before k (p, f, at1, at2, beside) =
    let lt : k < length ps = slice_get_within ps k p at1 in before k (omega arith) (p, f, at1, at2, beside)

pub not_falling_at : (ps : List Point) (k : ℕ) (d : Point) → k < length ps → 1 ≤ k
    → (get_or ps (k - 1) d).at ≤ (get_or ps k d).at → ¬ IsFalling ps k
not_falling_at ps k d lt pos le (j, p, q, e, at1, at2, falls) =
    let j_is : j ≡ k - 1 = omega arith in
    let one : p ≡ get_or ps (k - 1) d = same_Some p (get_or ps (k - 1) d) (sym at1 ∙ (ap (λ (n : ℕ). slice_get ps n) j_is ∙ slice_get-get_or ps (k - 1) d (omega arith))) in
    let two : q ≡ get_or ps k d = same_Some q (get_or ps k d) (sym at2 ∙ slice_get-get_or ps k d lt) in
    let a : p.at ≡ (get_or ps (k - 1) d).at = ap (λ (x : Point). x.at) one in
    let b : q.at ≡ (get_or ps k d).at = ap (λ (x : Point). x.at) two in
    omega arith

pub none_falling : (ps : List Point) (n : ℕ) → length ps ≤ n → ((j : ℕ) → j < n → ¬ IsFalling ps j) → (k : ℕ)
    → ¬ IsFalling ps k
none_falling ps n le before k (j, p, q, e, at1, at2, falls) =
    let lt : k < length ps = slice_get_within ps k q at2 in before k (omega arith) (j, p, q, e, at1, at2, falls)
