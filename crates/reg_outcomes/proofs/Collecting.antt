-- The outcomes that a layer tells, and their list.
use Rattle.std.proofs.Common.{◌≡◌, ◌⊎◌, inl, inr, ℕ, zero, suc, ◌<◌, List, [], ◌∷◌, ◌++◌, map, get_or, refl, ap, ap₂}
use Rattle.std.proofs.Common.{sym, ◌∙◌, subst}
use Rattle.std.specs.declared.cmp.Ordering.TheVariants.{Less}
use Rattle.std.specs.Cmp.Lexicographic.{slice_cmp}
use Rattle.std.specs.List.Sorted.{IsStrictlySortedBy}
use Rattle.std.specs.Map.{keys_of}
use Rattle.std.proofs.lemmas.Option.{slice_get_within, same_Some}
use Rattle.std.proofs.lemmas.Map.Keys.{Less-from_sorted}
use Rattle.reg_base.specs.declared.memory.Op.{Op}
use Rattle.reg_base.specs.Order.{In}
use Rattle.reg_checkers.specs.History.{IsAt}
use Rattle.reg_checkers.proofs.Places.{IsAt-map, at_map}
use Rattle.reg_outcomes.specs.declared.told.ToldAnswer.{ToldAnswer}
use Rattle.reg_outcomes.specs.Told.{told_cmp}
use Rattle.reg_outcomes.proofs.Elements.{has_at}
use Rattle.reg_outcomes.specs.Interleavings.{AreAll, Interleaving, IsInterleaving, Leads, Stage}
use Rattle.reg_outcomes.specs.Layers.{Adds, IsLayer, IsToldIn, operation_count}
use Rattle.reg_outcomes.proofs.Leading.{turns_of_all, used_up}
use Rattle.reg_outcomes.proofs.Stepping.{in_cases, in_more}

module _ {X : Type 0} (read : X → Stage × List ℕ) (xs : List X) (x : X) (o : List ToldAnswer × List ℕ) where
  pub told_more : IsToldIn (map read xs) o ⊎ (o ≡ ((read x).0.told, (read x).1)) → IsToldIn (map read (xs ++ x ∷ [])) o
  told_more (inl (f, at, e)) = (f, in_more read xs x f (inl at), e)
  told_more (inr e) = (read x, in_more read xs x (read x) (inr refl), e)

  pub told_cases : IsToldIn (map read (xs ++ x ∷ [])) o → IsToldIn (map read xs) o ⊎ (o ≡ ((read x).0.told, (read x).1))
  told_cases (f, at, e) = elim (in_cases read xs x f at) [
    | inl old ↦ inl (f, old, e)
    | inr same ↦ inr (e ∙ ap (λ (g : Stage × List ℕ). (g.0.told, g.1)) same)
  ]

in_at : {X Y : Type 0} (read : X → Y) (xs : List X) (k : ℕ) (x : X) → IsAt xs k x → In (read x) (map read xs)
in_at read [] k x at = absurd cc
in_at read (y ∷ xs) zero x at = inl (ap read (sym (same_Some y x at)))
in_at read (y ∷ xs) (suc k) x at = inr (in_at read xs k x at)

at_in : {X Y : Type 0} (read : X → Y) (xs : List X) (y : Y) → In y (map read xs)
    → (k : ℕ) × (x : X) × IsAt xs k x × (y ≡ read x)
at_in read [] y h = absurd h
at_in read (x ∷ xs) y (inl e) = (0, x, refl, e)
at_in read (x ∷ xs) y (inr h) = let there = at_in read xs y h in (suc there.0, there.1, there.2, there.3)

-- the keys and turns of a map, as outcomes
module _ {K V : Type 0} (told_of : K → List ToldAnswer) (turns_of : V → List ℕ) where
  abbrev outcome : K × V → List ToldAnswer × List ℕ
  outcome e = (told_of e.0, turns_of e.1)

  abbrev interleaving : K × V → Interleaving
  interleaving e = record { turns = turns_of e.1; told = told_of e.0 }

  module _ (scripts : List (List Op)) (registers : ℕ) (layer : List (Stage × List ℕ)) (is : IsLayer scripts registers (operation_count scripts) layer) (es : List (K × V)) (adds : Adds (IsToldIn layer) [] (map outcome es)) where
    each : (k : ℕ) (i : Interleaving) → IsAt (map interleaving es) k i → IsInterleaving scripts registers i
    each k i at =
        let entry = at_map interleaving es k i at in
        let e : K × V = entry.0 in
        elim (adds.only (outcome e) (in_at outcome es k e entry.1)) [
          | inl old ↦ absurd old
          | inr told ↦ subst (λ (j : Interleaving). IsInterleaving scripts registers j) entry.2 (from e told)
        ]
      where
        from : (e : K × V) → IsToldIn layer (outcome e) → IsInterleaving scripts registers (interleaving e)
        from e (f, there, same) =
            let leads = is.each f there in
            record {
              last = f.0;
              leads = subst (λ t. Leads scripts registers t f.0) (sym (ap (λ (o : List ToldAnswer × List ℕ). o.1) same)) leads.0;
              used_up = used_up scripts registers f.1 f.0 leads.0 leads.1;
              tells = sym (ap (λ (o : List ToldAnswer × List ℕ). o.0) same);
            }

    all : (i : Interleaving) → IsInterleaving scripts registers i → (k : ℕ) × (j : Interleaving) × IsAt (map interleaving es) k j × (j.told ≡ i.told)
    all i h =
        let found = is.all i.turns h.last h.leads (turns_of_all scripts registers i.turns h.last h.leads h.used_up) in
        let f : Stage × List ℕ = found.0 in
        let new = adds.added (f.0.told, f.1) (f, found.1, refl) in
        let there = at_in outcome es new.0 new.1 in
        let e : K × V = there.1 in
        (there.0, interleaving e, IsAt-map interleaving es there.0 e there.2, sym (ap (λ (o : List ToldAnswer × List ℕ). o.0) there.3) ∙ new.2 ∙ ap (λ (s : Stage). s.told) found.2 ∙ h.tells)

    rising : IsStrictlySortedBy (λ a b. slice_cmp told_cmp (told_of a) (told_of b)) (keys_of es) → (k l : ℕ) (i j : Interleaving) → IsAt (map interleaving es) k i → IsAt (map interleaving es) l j → k < l → slice_cmp told_cmp i.told j.told ≡ Less
    rising ordered k l i j at here lt =
        let first = at_map interleaving es k i at in
        let second = at_map interleaving es l j here in
        let a : K = first.0.0 in
        let b : K = second.0.0 in
        let at_first = IsAt-map (λ (e : K × V). e.0) es k first.0 first.1 in
        let at_second = IsAt-map (λ (e : K × V). e.0) es l second.0 second.1 in
        let less = Less-from_sorted (λ a b. slice_cmp told_cmp (told_of a) (told_of b)) (keys_of es) k l a ordered lt (slice_get_within (keys_of es) l b at_second) in
        let i_is : i.told ≡ told_of (get_or (keys_of es) k a) = sym (ap (λ (x : Interleaving). x.told) first.2) ∙ sym (ap told_of (has_at (keys_of es) k a a at_first)) in
        let j_is : j.told ≡ told_of (get_or (keys_of es) l a) = sym (ap (λ (x : Interleaving). x.told) second.2) ∙ sym (ap told_of (has_at (keys_of es) l b a at_second)) in
        ap₂ (λ x y. slice_cmp told_cmp x y) i_is j_is ∙ less

    -- these are all outcomes
    pub are_all : IsStrictlySortedBy (λ a b. slice_cmp told_cmp (told_of a) (told_of b)) (keys_of es) → AreAll scripts registers (map interleaving es)
    are_all ordered = record { each = each; all = all; rising = rising ordered }
