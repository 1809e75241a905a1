-- What is left once the outcomes are cut out, listed.
use Rattle.std.proofs.Common.{◌≡◌, ℕ, ◌<◌, ◌≤◌, ◌+◌, List, ◌∷◌, length, map, drop, Option, None, Some, Result, Ok, Err}
use Rattle.std.proofs.Common.{ap, ap₂, sym, ◌∙◌, subst, arith}
use Rattle.std.specs.Prelude.{IfOk, MatchOption, OnOk}
use Rattle.std.specs.Option.{option_map}
use Rattle.std.specs.declared.cmp.Ordering.{Ordering}
use Rattle.std.specs.declared.cmp.Ordering.TheVariants.{Less}
use Rattle.std.specs.Cmp.Lexicographic.{slice_cmp}
use Rattle.std.specs.List.Sorted.{IsStrictlySortedBy}
use Rattle.std.proofs.lemmas.List.{drop_more, length-map}
use Rattle.std.proofs.lemmas.Map.Keys.{Less-from_sorted}
use Rattle.std.proofs.lemmas.Option.{get_or_from_slice_get, slice_get_within}
use Rattle.reg_checkers.specs.History.{IsAt}
use Rattle.reg_checkers.proofs.Places.{at_map}
use Rattle.reg_outcomes.specs.declared.told.ToldAnswer.{ToldAnswer}
use Rattle.reg_outcomes.specs.Told.{told_cmp}
use Rattle.reg_outcomes.specs.Nevers.{AreNevers, TellsNevers}
use Rattle.reg_outcomes.specs.Combining.{AreCombinations}
use Rattle.reg_outcomes.proofs.Combining.{left_never, never_left}
use Rattle.reg_outcomes.proofs.Growing.{IsCut, at_in, in_at, same_place}

-- the next one of those that are left
pub next_left : (outcomes : List (List ToldAnswer)) (n : ℕ) (o : List ToldAnswer) → IsAt outcomes n o
    → drop n outcomes ≡ o ∷ drop (n + 1) outcomes
next_left outcomes n o at = drop_more outcomes n o (slice_get_within outcomes n o at) ∙ ap (λ x. x ∷ drop (n + 1) outcomes) (get_or_from_slice_get outcomes n o o at)

module _ {K : Type 0} (read : K → List ToldAnswer) where
  abbrev by : K → K → Ordering
  by a b = slice_cmp told_cmp (read a) (read b)

  rising : (ks : List K) → IsStrictlySortedBy by ks → (k l : ℕ) (s t : List ToldAnswer) → IsAt (map read ks) k s → IsAt (map read ks) l t → k < l → slice_cmp told_cmp s t ≡ Less
  rising ks ordered k l s t at here lt =
      let a = at_map read ks k s at in
      let b = at_map read ks l t here in
      let less = Less-from_sorted by ks k l a.0 ordered lt (slice_get_within ks l b.0 b.1) in
      ap₂ (λ x y. slice_cmp told_cmp x y) (sym a.2 ∙ sym (ap read (get_or_from_slice_get ks k a.0 a.0 a.1))) (sym b.2 ∙ sym (ap read (get_or_from_slice_get ks l b.0 a.0 b.1))) ∙ less

  module _ (outcomes : List (List ToldAnswer)) (first : List ToldAnswer) (at : IsAt outcomes 0 first) (ks left : List K) (all : AreCombinations outcomes (length first) (map read ks)) (is : IsCut read outcomes ks left) (ordered : IsStrictlySortedBy by left) where
    tells_nevers : {X : Type 0} (items : X → List K) (most : ℕ) (found : Option X) → MatchOption found (most < length left) (λ list. (items list ≡ left) × (length left ≤ most)) → TellsNevers outcomes most (option_map (λ list. map read (items list)) found)
    tells_nevers items most None more = record {
      nevers = map read left;
      more = (let e = length-map left read in omega (arith, e, more));
      once = same_place (map read left) is.apart;
      each = λ k told here. left_never outcomes first at read ks left all is told (in_at (map read left) k told here);
    }
    tells_nevers items most (Some list) (same, few) = subst (λ l. AreNevers outcomes (map read l) × (length (map read l) ≤ most)) (sym same) (
      record {
        each = λ k told here. left_never outcomes first at read ks left all is told (in_at (map read left) k told here);
        all = λ told never. at_in (map read left) told (never_left outcomes first at read ks left all is told never);
        rising = rising left ordered;
      },
      (let e = length-map left read in omega (arith, e, few)),
    )

  -- the same of a call
  pub tells_listed : {X E : Type 0} (outcomes : List (List ToldAnswer)) (first : List ToldAnswer)
      → IsAt outcomes 0 first → (ks left : List K) → AreCombinations outcomes (length first) (map read ks)
      → IsCut read outcomes ks left → (items : X → List K) (most : ℕ) (r : Result (Option X) E)
      → OnOk r (IsStrictlySortedBy by left)
      → IfOk r (λ found. MatchOption found (most < length left) (λ list. (items list ≡ left) × (length left ≤ most))) → IfOk r (λ found. TellsNevers outcomes most (option_map (λ list. map read (items list)) found))
  tells_listed outcomes first at ks left all is items most (Ok found) ordered told = tells_nevers outcomes first at ks left all is ordered items most found told
  tells_listed outcomes first at ks left all is items most (Err e) ordered told = tt
