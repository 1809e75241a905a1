-- The lines of a table, from the entries of the map.
use Rattle.std.proofs.Common.{◌≡◌, inl, inr, ℕ, ◌<◌, true, false, List, [], ◌∷◌, map, Option, Some, None, get_or, refl}
use Rattle.std.proofs.Common.{ap, sym, ◌∙◌, subst, arith}
use Rattle.std.specs.BTreeMap.{BTreeMap, get, IsOrdered, is_at}
use Rattle.std.specs.List.{IsDistinct, AllByRecursion}
use Rattle.std.specs.List.Sorted.{IsPermutation, IsSorted}
use Rattle.std.specs.Map.{keys_of}
use Rattle.std.specs.Ordering.{is_lt, eq_by_cmp}
use Rattle.std.proofs.lemmas.Bool.{cases_order, false≢true}
use Rattle.std.proofs.lemmas.Option.{slice_get_within}
use Rattle.std.proofs.lemmas.List.Sorted.{IsPermutation-sym, Contains-permutation, sorted_far, ranks_by}
use Rattle.std.proofs.lemmas.Map.Entries.{place_from_lookup, btree_map_get_place}
use Rattle.std.proofs.lemmas.Map.Keys.{IsDistinct-from_sorted, IsDistinct-IsPermutation, apart_from_distinct}
use Rattle.reg_checkers.specs.History.{IsAt}
use Rattle.reg_checkers.proofs.Places.{IsAt-map, at_map}
use Rattle.reg_outcomes.specs.declared.told.ToldAnswer.{ToldAnswer}
use Rattle.reg_outcomes.specs.declared.tables.tallies.Tally.{Tally}
use Rattle.reg_outcomes.specs.PlayTables.{Seen, Line, IsTallyOf, IsTable, StandsBefore}
use Rattle.reg_outcomes.specs.Counts.{TellsOf, IsCounted, key_cmp, line_cmp, line_of}
use Rattle.reg_outcomes.proofs.Elements.{has_at}
use Rattle.reg_outcomes.proofs.Those.{contains_at, at_of}
use Rattle.reg_outcomes.proofs.Ordering.{keys_total, lines_total, outcome_flips, same_keys, same_outcome, stands_before}
use Rattle.reg_outcomes.proofs.Ordering.{tied_keys}

-- what stands in one order stands in another
moved : {X : Type 0} (xs ys : List X) (k : ℕ) (x : X) → IsPermutation xs ys → IsAt xs k x → (j : ℕ) × IsAt ys j x
moved xs ys k x same at =
    let there = Contains-permutation xs ys x same (contains_at xs k x at) in
    (there.0, at_of ys there.0 x there.1 there.2)

module _ {K : Type 0} (items : K → List ToldAnswer) where
  apart : (k : K) (t : Tally) (es : List (K × Tally)) → AllByRecursion (λ q. eq_by_cmp (key_cmp items) k q ≡ false) (keys_of es) → AllByRecursion (λ l. same_outcome (line_of items (k, t)) l ≡ false) (map (line_of items) es)
  apart k t [] h = tt
  apart k t (e ∷ es) h = (h.0, apart k t es h.1)

  lines_differ : (es : List (K × Tally)) → IsDistinct (eq_by_cmp (key_cmp items)) (keys_of es) → IsDistinct same_outcome (map (line_of items) es)
  unfolding IsDistinct
  lines_differ [] h = tt
  lines_differ (e ∷ es) h = (apart e.0 e.1 es h.0, lines_differ es h.1)

  module _ (plays : List Seen) (told : BTreeMap K Tally) (unfinished : ℕ) (counted : IsCounted items plays told unfinished) (ordered : IsOrdered (key_cmp items) told) (lines : List Line)
      (same : IsPermutation (map (line_of items) told.entries) lines) (sorted : IsSorted line_cmp lines) where
    each : (i : ℕ) (line : Line) → IsAt lines i line → IsTallyOf plays line.outcome line.tally
    each i line at =
        let there = moved lines (map (line_of items) told.entries) i line (IsPermutation-sym (map (line_of items) told.entries) lines same) at in
        let entry = at_map (line_of items) told.entries there.0 line there.1 in
        let found : get (key_cmp items) told entry.0.0 ≡ Some entry.0.1 = btree_map_get_place (keys_total items) told there.0 entry.0.0 entry.0.1 ordered entry.1 in
        subst (λ (l : Line). IsTallyOf plays l.outcome l.tally) entry.2 (subst (λ o. TellsOf plays (items entry.0.0) o) found (counted.tells entry.0.0))

    all : (k : ℕ) (s : Seen) → IsAt plays k s → s.is_finished ≡ true → (i : ℕ) × (line : Line) × IsAt lines i line × (line.outcome ≡ s.outcome)
    all k s at done = let key = counted.known k s at done in go key.0 key.1 (get (key_cmp items) told key.0) refl (counted.tells key.0)
      where
        go : (q : K) → items q ≡ s.outcome → (o : Option Tally) → get (key_cmp items) told q ≡ o → TellsOf plays (items q) o → (i : ℕ) × (line : Line) × IsAt lines i line × (line.outcome ≡ s.outcome)
        go q is None found none = absurd (none k s at done (sym is))
        go q is (Some t) found told_of =
            let place = place_from_lookup (is_at (key_cmp items q)) told.entries t found in
            let line = line_of items (place.1, t) in
            let there = moved (map (line_of items) told.entries) lines place.0 line same (IsAt-map (line_of items) told.entries place.0 (place.1, t) place.2) in
            (there.0, line, there.1, sym (same_keys (items q) (items place.1) place.3) ∙ is)

    differ : IsDistinct same_outcome lines
    differ = IsDistinct-IsPermutation same_outcome outcome_flips (map (line_of items) told.entries) lines same (lines_differ told.entries (IsDistinct-from_sorted (key_cmp items) (keys_of told.entries) ordered))

    apart_at : (i j : ℕ) (a b : Line) → IsAt lines i a → IsAt lines j b → i < j → same_outcome a b ≡ false
    apart_at i j a b at1 at2 lt =
        let first : get_or lines i a ≡ a = has_at lines i a a at1 in
        let second : get_or lines j a ≡ b = has_at lines j b a at2 in
        ap (λ x. same_outcome x b) (sym first) ∙ ap (λ x. same_outcome (get_or lines i a) x) (sym second) ∙ apart_from_distinct same_outcome lines i j a differ lt (slice_get_within lines j b at2)

    once : (i j : ℕ) (a b : Line) → IsAt lines i a → IsAt lines j b → a.outcome ≡ b.outcome → i ≡ j
    once i j a b at1 at2 e = elim (cases_order i j) [
      | inl is ↦ is
      | inr (inl lt) ↦ absurd (false≢true (sym (apart_at i j a b at1 at2 lt) ∙ tied_keys a.outcome b.outcome e))
      | inr (inr gt) ↦ absurd (false≢true (sym (apart_at j i b a at2 at1 gt) ∙ tied_keys b.outcome a.outcome (sym e)))
    ]

    in_order : (i j : ℕ) (a b : Line) → IsAt lines i a → IsAt lines j b → i < j → StandsBefore a b
    in_order i j a b at1 at2 lt =
        let first : get_or lines i a ≡ a = has_at lines i a a at1 in
        let second : get_or lines j a ≡ b = has_at lines j b a at2 in
        let up = sorted_far (λ x y. is_lt (line_cmp x y)) (ranks_by lines_total (λ x. x)) lines sorted i j a (omega arith) (slice_get_within lines j b at2) in
        stands_before a b (ap (λ x. is_lt (line_cmp x a)) (sym second) ∙ ap (λ x. is_lt (line_cmp (get_or lines j a) x)) (sym first) ∙ up) (apart_at i j a b at1 at2 lt)

    pub is_table : IsTable plays lines
    is_table = record { each = each; all = all; once = once; ordered = in_order }
