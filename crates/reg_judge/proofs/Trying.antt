-- Candidates gathered, and those that are possible.
use Rattle.std.proofs.Common.{◌≡◌, ◌⊎◌, inl, inr, ℕ, ◌+◌, ◌<◌, ◌≤◌, ◌↔◌, Bool, true, false, cond, List, [], ◌∷◌, ◌++◌}
use Rattle.std.proofs.Common.{Option, Some, MatchOption, length, refl, sym, ◌∙◌, subst, arith}
use Rattle.std.specs.Bool.{IsTrue}
use Rattle.std.specs.Option.{unwrap_or}
use Rattle.std.proofs.lemmas.Bool.{cases_eq}
use Rattle.reg_base.specs.declared.memory.Answer.{Answer}
use Rattle.reg_base.specs.declared.memory.Answer.TheVariants.{Done, Value, Unequal}
use Rattle.reg_base.specs.declared.memory.OpId.{OpId}
use Rattle.reg_checkers.specs.declared.entries.Entry.{Entry}
use Rattle.reg_checkers.specs.declared.entries.Entry.TheVariants.{Called}
use Rattle.reg_checkers.specs.declared.facts.Given.{Given}
use Rattle.reg_checkers.specs.Facts.{IsFactOf}
use Rattle.reg_checkers.specs.History.{IsAnswered, IsAt, IsCalled, IsFinished}
use Rattle.reg_checkers.specs.Table.{IsTable, Rows}
use Rattle.reg_checkers.proofs.Places.{get_push_other, get_push_same, same_at, within}
use Rattle.reg_checkers.proofs.Pushing.{at_push}
use Rattle.reg_judge.specs.Candidates.{AreAnswersTo, AreCandidates, AreLeftTo, ArePossibleOf, ArePossibleTo, HasMore}
use Rattle.reg_judge.specs.Candidates.{IsChange, IsSince, Leaves}
use Rattle.reg_judge.specs.Possible.{ArePossible, Has, IsPossible}

-- it stands in the list
abbrev In : {X : Type 0} → List X → X → Type 0
In xs x = (k : ℕ) × IsAt xs k x

pub in_old : {X : Type 0} (xs : List X) (x y : X) → In xs y → In (xs ++ x ∷ []) y
in_old xs x y (k, at) = (k, get_push_other xs k x (λ e. (let lt = within xs k y at in omega (arith, e, lt))) ∙ at)

pub in_new : {X : Type 0} (xs : List X) (x : X) → In (xs ++ x ∷ []) x
in_new xs x = (length xs, get_push_same xs (length xs) x refl)

pub in_more : {X : Type 0} (xs : List X) (x y : X) → In (xs ++ x ∷ []) y → In xs y ⊎ (y ≡ x)
in_more xs x y (k, at) = elim (at_push xs k x y at) [ inl old ↦ inl (k, old) | inr new ↦ inr new.1 ]

-- Values

pub left_more : {A : Type 0} (rows : Rows A) (h : List Entry) (since : Option ℕ) (old new : List ℕ) (i : ℕ) (e : Entry)
    (event : ℕ) (told : Option ℕ)
    → IsAt h i e → event ≡ unwrap_or since 0 → Leaves rows event e told → HasMore old told new
    → AreLeftTo i rows h since old → AreLeftTo (i + 1) rows h since new
left_more rows h since old new i e event told here from leaves more before = record {
  first = λ none. more.kept 0 (before.first none);
  left = λ k at id op v lt there makes over. elim (cases_eq k i) [
    | inl is ↦
        let same : e ≡ Called at id op = same_at h i e (Called at id op) here (subst (λ (j : ℕ). IsAt h j (Called at id op)) is there) in
        let tells : Leaves rows (unwrap_or since 0) (Called at id op) told = subst (λ (n : ℕ). Leaves rows n (Called at id op) told) from (subst (λ (x : Entry). Leaves rows event x told) same leaves) in
        more.has v (tells v makes over)
    | inr not ↦ more.kept v (before.left k at id op v (omega (arith, lt, not)) there makes over)
  ];
}

-- Answers

pub answers_more : (values : List ℕ) (old new : List Answer) (i v : ℕ) → IsAt values i v → new ≡ old ++ Value v ∷ []
    → AreAnswersTo i values old → AreAnswersTo (i + 1) values new
answers_more values old new i v here grown are = subst (AreAnswersTo (i + 1) values) (sym grown) (record {
  done = in_old old (Value v) Done are.done;
  unequal = in_old old (Value v) Unequal are.unequal;
  value = λ k w lt there. elim (cases_eq k i) [
    | inl is ↦ subst (λ (x : ℕ). Has (old ++ Value v ∷ []) (Value x)) (same_at values i v w here (subst (λ (j : ℕ). IsAt values j w) is there)) (in_new old (Value v))
    | inr not ↦ in_old old (Value v) (Value w) (are.value k w (omega (arith, lt, not)) there)
  ];
})

-- a change of the table is one of the history
pub change_since : {A : Type 0} (rows : Rows A) (h : List Entry) (id : OpId) (event called : ℕ) → IsTable h rows
    → IsChange rows id event called → IsSince h event (Some called)
change_since rows h id event called table (f, g, v, is, answered, lt, makes, same) =
    let fact : IsFactOf h id f = table.facts id f is in
    let given = subst (λ (o : Option Given). MatchOption o (¬ IsFinished h id) (λ r. IsAnswered h id r.at r.answer)) answered fact.answered in
    (id, f.op, g.at, g.answer, v, subst (λ (n : ℕ). IsCalled h id n f.op) (sym same) fact.called, given, lt, makes)

-- Those that are possible
module _ (registers : ℕ) (h : List Entry) (place : ℕ) (candidates : List Answer) where
  module _ (i : ℕ) (candidate : Answer) (here : IsAt candidates i candidate) (old : List Answer) (before : ArePossibleTo i registers h place candidates old) where
    earlier : (answer : Answer) → Has old answer → ((k : ℕ) × (k < i + 1) × IsAt candidates k answer) × IsPossible registers h place answer
    earlier answer has =
        let was = (before answer).0 has in
        let lt = was.0.1 in
        ((was.0.0, omega (arith, lt), was.0.2), was.1)

    -- one of the first, or the new one
    split : (answer : Answer) (k : ℕ) → k < i + 1 → IsAt candidates k answer → IsPossible registers h place answer → Has old answer ⊎ (candidate ≡ answer)
    split answer k lt at is = elim (cases_eq k i) [
      | inl e ↦ inr (same_at candidates i candidate answer here (subst (λ (j : ℕ). IsAt candidates j answer) e at))
      | inr not ↦ inl ((before answer).1 ((k, omega (arith, lt, not), at), is))
    ]

    pub possible_more : IsPossible registers h place candidate → ArePossibleTo (i + 1) registers h place candidates (old ++ candidate ∷ [])
    possible_more is answer = (
      λ has. elim (in_more old candidate answer has) [
        | inl was ↦ earlier answer was
        | inr new ↦ ((i, omega arith, subst (IsAt candidates i) (sym new) here), subst (IsPossible registers h place) (sym new) is)
      ],
      λ ((k, lt, at), possible). elim (split answer k lt at possible) [
        | inl was ↦ in_old old candidate answer was
        | inr same ↦ subst (Has (old ++ candidate ∷ [])) same (in_new old candidate)
      ],
    )

    pub possible_same : ¬ IsPossible registers h place candidate → ArePossibleTo (i + 1) registers h place candidates old
    possible_same not answer = (
      λ has. earlier answer has,
      λ ((k, lt, at), possible). elim (split answer k lt at possible) [
        | inl was ↦ was
        | inr same ↦ absurd (not (subst (IsPossible registers h place) (sym same) possible))
      ],
    )

  -- one candidate more, by whether it is possible
  pub possible_by : (i : ℕ) (candidate : Answer) → IsAt candidates i candidate → (old new : List Answer) (b : Bool)
      → IsTrue b ↔ IsPossible registers h place candidate → new ≡ cond b (old ++ candidate ∷ []) old
      → ArePossibleTo i registers h place candidates old → ArePossibleTo (i + 1) registers h place candidates new
  possible_by i candidate here old new true tells is before = subst (ArePossibleTo (i + 1) registers h place candidates) (sym is) (possible_more i candidate here old before (tells.0 cc))
  possible_by i candidate here old new false tells is before = subst (ArePossibleTo (i + 1) registers h place candidates) (sym is) (possible_same i candidate here old before (λ possible. (let bad : IsTrue false = tells.1 possible in let no : ⊥ = cc in no)))

  pub possible_all : (answers : List Answer) (i : ℕ) → length candidates ≤ i
      → ArePossibleTo i registers h place candidates answers → ArePossibleOf registers h place candidates answers
  possible_all answers i end are answer = (
    λ has. (let was = (are answer).0 has in ((was.0.0, was.0.2), was.1)),
    λ ((k, at), possible). (are answer).1 ((k, (let lt = within candidates k answer at in omega (arith, lt, end)), at), possible),
  )

  pub possible_of_candidates : (answers : List Answer) → AreCandidates registers h place candidates
      → ArePossibleOf registers h place candidates answers → ArePossible registers h place answers
  possible_of_candidates answers complete are answer = ((λ has. ((are answer).0 has).1), λ possible. (are answer).1 (complete answer possible, possible))
