-- How many stages there are.
use Rattle.std.proofs.Common.{◌≡◌, inl, inr, ℕ, zero, suc, ◌+◌, ◌≤◌, List, [], ◌∷◌, ◌++◌, length, map, Some, refl, ap}
use Rattle.std.proofs.Common.{sym, ◌∙◌, subst, arith, length-append}
use Rattle.std.proofs.lemmas.Bool.{cases_eq}
use Rattle.std.proofs.lemmas.List.{length-map}
use Rattle.std.proofs.lemmas.Option.{same_Some}
use Rattle.reg_base.specs.declared.memory.Op.{Op}
use Rattle.reg_base.specs.Order.{In}
use Rattle.reg_base.proofs.Lists.{in_cases, in_left, in_right}
use Rattle.reg_checkers.specs.History.{IsAt}
use Rattle.reg_outcomes.specs.Interleavings.{CountsStages, Leads, Nothing, Turn, Stage, first_stage}
use Rattle.reg_outcomes.specs.Layers.{AreApart, AreCounted, AreDifferent, IsLayer, operation_count}
use Rattle.reg_outcomes.proofs.Leading.{keeps, no_more_turns}

-- the stages of these entries
abbrev pub stages_of : List (Stage × List ℕ) → List Stage
stages_of fs = map (λ f. f.0) fs

pub behind : (fs : List (Stage × List ℕ)) (s : Stage) → In s (stages_of fs) → (f : Stage × List ℕ) × In f fs × (f.0 ≡ s)
behind [] s h = absurd h
behind (f ∷ fs) s (inl e) = (f, inl refl, sym e)
behind (f ∷ fs) s (inr h) = let there = behind fs s h in (there.0, inr there.1, there.2)

in_stages : (fs : List (Stage × List ℕ)) (f : Stage × List ℕ) → In f fs → In f.0 (stages_of fs)
in_stages [] f h = absurd h
in_stages (g ∷ fs) f (inl e) = inl (ap (λ (x : Stage × List ℕ). x.0) e)
in_stages (g ∷ fs) f (inr h) = inr (in_stages fs f h)

pub different_of : (fs : List (Stage × List ℕ)) → AreApart fs → AreDifferent (stages_of fs)
different_of [] apart = tt
different_of (f ∷ fs) apart =
    (λ t h e. let there = behind fs t h in apart.0 there.0 there.1 (e ∙ sym there.2), different_of fs apart.1)

pub different_both : (ss ts : List Stage) → AreDifferent ss → AreDifferent ts → ((s : Stage) → In s ss → In s ts → ⊥)
    → AreDifferent (ss ++ ts)
different_both [] ts a b none = b
different_both (s ∷ ss) ts a b none = (
  λ t h e. elim (in_cases t ss ts h) [ inl k ↦ a.0 t k e | inr k ↦ none t (inl (sym e)) k ],
  different_both ss ts a.1 b (λ t h k. none t (inr h) k),
)

at_in : (ss : List Stage) (s : Stage) → In s ss → (k : ℕ) × IsAt ss k s
at_in [] s h = absurd h
at_in (t ∷ ss) s (inl e) = (0, ap Some (sym e))
at_in (t ∷ ss) s (inr h) = let there = at_in ss s h in (suc there.0, there.1)

pub in_at : (ss : List Stage) (k : ℕ) (s : Stage) → IsAt ss k s → In s ss
in_at [] k s at = absurd cc
in_at (t ∷ ss) zero s at = inl (sym (same_Some t s at))
in_at (t ∷ ss) (suc k) s at = inr (in_at ss k s at)

pub once_of : (ss : List Stage) → AreDifferent ss → (i j : ℕ) (s : Stage) → IsAt ss i s → IsAt ss j s → i ≡ j
once_of [] different i j s at here = absurd cc
once_of (t ∷ ss) different zero zero s at here = refl
once_of (t ∷ ss) different zero (suc j) s at here = absurd (different.0 s (in_at ss j s here) (same_Some t s at))
once_of (t ∷ ss) different (suc i) zero s at here = absurd (different.0 s (in_at ss i s at) (same_Some t s here))
once_of (t ∷ ss) different (suc i) (suc j) s at here = ap suc (once_of ss different.1 i j s at here)

-- so many turns lead to a stage, and no other number
pub as_many_turns : (scripts : List (List Op)) (registers : ℕ) (a b : List ℕ) (s : Stage) → Leads scripts registers a s
    → Leads scripts registers b s → length a ≡ length b
as_many_turns scripts registers a b s first second =
    sym (keeps scripts registers a s first).count ∙ (keeps scripts registers b s second).count

module _ (scripts : List (List Op)) (registers : ℕ) where
  -- the first layer
  pub first_counted : AreCounted scripts registers 0 1
  first_counted = record {
    stages = first_stage (length scripts) registers ∷ [];
    count = refl;
    different = (λ t h e. absurd h, tt);
    led = λ s h. elim h [ inl e ↦ ([], subst (λ x. Leads scripts registers [] x) (sym e) Nothing, omega arith) | inr none ↦ absurd none ];
    all = all;
  }
    where
      all : (turns : List ℕ) (s : Stage) → Leads scripts registers turns s → length turns ≤ 0 → In s (first_stage (length scripts) registers ∷ [])
      all turns s Nothing le = inl refl
      all turns s (Turn {turns = old} p op leads at) le = let l = length-append old (p ∷ []) in absurd (omega (arith, l, le))

  -- one layer more
  pub next_counted : (k n m : ℕ) (layer : List (Stage × List ℕ)) → AreCounted scripts registers k n
      → IsLayer scripts registers (k + 1) layer → AreApart layer → m ≡ length layer
      → AreCounted scripts registers (k + 1) (n + m)
  next_counted k n m layer old is apart e = record {
    stages = old.stages ++ stages_of layer;
    count = (let a = length-append old.stages (stages_of layer) in let b = length-map layer (λ f. f.0) in let c = old.count in omega (arith, a, b, c, e));
    different = different_both old.stages (stages_of layer) old.different (different_of layer apart) (λ s h there.
        let early = old.led s h in
        let entry = behind layer s there in
        let late = is.each entry.0 entry.1 in
        let leads = subst (λ x. Leads scripts registers entry.0.1 x) entry.2 late.0 in
        let same = as_many_turns scripts registers early.0 entry.0.1 s early.1 leads in
        let few = early.2 in
        let many = late.1 in
        omega (arith, same, few, many));
    led = λ s h. elim (in_cases s old.stages (stages_of layer) h) [
      | inl early ↦ let there = old.led s early in (there.0, there.1, (let few = there.2 in omega (arith, few)))
      | inr late ↦
          let entry = behind layer s late in
          let there = is.each entry.0 entry.1 in
          (entry.0.1, subst (λ x. Leads scripts registers entry.0.1 x) entry.2 there.0, (let many = there.1 in omega (arith, many)))
    ];
    all = λ turns s leads le. elim (cases_eq (length turns) (k + 1)) [
      | inl same ↦
          let there = is.all turns s leads same in
          in_right s old.stages (stages_of layer) (subst (λ x. In x (stages_of layer)) there.2 (in_stages layer there.0 there.1))
      | inr other ↦ in_left s old.stages (stages_of layer) (old.all turns s leads (omega (arith, le, other)))
    ];
  }

  -- and no layer is left
  pub all_counted : (k n : ℕ) → operation_count scripts ≤ k → AreCounted scripts registers k n
      → CountsStages scripts registers n
  all_counted k n most counted = record {
    stages = counted.stages;
    count = counted.count;
    once = once_of counted.stages counted.different;
    led = λ i s at. let there = counted.led s (in_at counted.stages i s at) in (there.0, there.1);
    all = λ turns s leads. at_in counted.stages s (counted.all turns s leads (let few = no_more_turns scripts registers turns s leads in omega (arith, few, most)));
  }
