-- Every list has a sorted one of the same elements.
use Rattle.std.proofs.Common.{◌≡◌, ℕ, zero, suc, ◌+◌, ◌<◌, Bool, true, false, not, cond, List, [], ◌∷◌, length, refl}
use Rattle.std.proofs.Common.{ap, sym, ◌∙◌, subst, arith}
use Rattle.std.specs.Cmp.{IsTotalOrder, IsStrictWeakOrder}
use Rattle.std.specs.List.{filter}
use Rattle.std.specs.List.Sorted.{IsSorted, IsSortedBy, IsStable, IsStableBy, ties}
use Rattle.std.specs.Ordering.{is_lt}
use Rattle.std.specs.declared.cmp.Ordering.{Ordering}
use Rattle.std.specs.Prelude.{slice_index_or}
use Rattle.std.proofs.lemmas.Bool.{cond_both, and_parts, false≢true}
use Rattle.std.proofs.lemmas.List.Sorted.{ranks_by}

not_true : (b : Bool) → not b ≡ true → b ≡ false
not_true true e = absurd (false≢true e)
not_true false e = refl

-- two elements of which a filter keeps one at most may change places
swapped : {X : Type 0} (a b : Bool) (x y : X) (l : List X) → (a ≡ true → b ≡ true → ⊥)
    → cond a (x ∷ cond b (y ∷ l) l) (cond b (y ∷ l) l) ≡ cond b (y ∷ cond a (x ∷ l) l) (cond a (x ∷ l) l)
swapped true true x y l h = absurd (h refl refl)
swapped true false x y l h = refl
swapped false true x y l h = refl
swapped false false x y l h = refl

module _ {X : Type 0} (lt : X → X → Bool) (order : IsStrictWeakOrder lt) where
  -- behind those that are less
  abbrev put_in : X → List X → List X
  put_in x [] = x ∷ []
  put_in x (y ∷ ys) = cond (lt y x) (y ∷ put_in x ys) (x ∷ y ∷ ys)

  abbrev sort : List X → List X
  sort [] = []
  sort (x ∷ xs) = put_in x (sort xs)

  -- no element is less than the one before it
  abbrev Climbs : List X → Type 0
  Climbs [] = Unit {0}
  Climbs (x ∷ []) = Unit {0}
  Climbs (x ∷ y ∷ ys) = (lt y x ≡ false) × Climbs (y ∷ ys)

  rest_climbs : (y : X) (ys : List X) → Climbs (y ∷ ys) → Climbs ys
  rest_climbs y [] h = tt
  rest_climbs y (z ∷ zs) h = h.1

  climbs_behind : (x y : X) (ys : List X) → lt y x ≡ true → Climbs (y ∷ ys) → Climbs (put_in x ys) → Climbs (y ∷ put_in x ys)
  climbs_behind x y [] e h c = (order.one_way y x e, tt)
  climbs_behind x y (z ∷ zs) e h c =
      cond_both (lt z x) (z ∷ put_in x zs) (x ∷ z ∷ zs) (λ l. Climbs l → Climbs (y ∷ l)) (λ f d. (h.0, d)) (λ f d. (order.one_way y x e, d)) c

  climbs_in : (x : X) (ys : List X) → Climbs ys → Climbs (put_in x ys)
  climbs_in x [] h = tt
  climbs_in x (y ∷ ys) h =
      let rest = climbs_in x ys (rest_climbs y ys h) in
      cond_both (lt y x) (y ∷ put_in x ys) (x ∷ y ∷ ys) Climbs (λ e. climbs_behind x y ys e h rest) (λ e. (e, h))

  climbs : (xs : List X) → Climbs (sort xs)
  climbs [] = tt
  climbs (x ∷ xs) = climbs_in x (sort xs) (climbs xs)

  climbs_at : (ys : List X) (k : ℕ) (d : X) → Climbs ys → suc k < length ys → lt (slice_index_or ys (suc k) d) (slice_index_or ys k d) ≡ false
  climbs_at [] k d h l = absurd (omega arith)
  climbs_at (x ∷ []) k d h l = absurd (omega arith)
  climbs_at (x ∷ y ∷ ys) zero d h l = h.0
  climbs_at (x ∷ y ∷ ys) (suc k) d h l = climbs_at (y ∷ ys) k d h.1 (omega arith)

  is_sorted : (xs : List X) → IsSortedBy lt (sort xs)
  is_sorted xs k d low high =
      let one : k + 1 ≡ suc k = omega arith in
      subst (λ j. lt (slice_index_or (sort xs) j d) (slice_index_or (sort xs) k d) ≡ false) (sym one) (climbs_at (sort xs) k d (climbs xs) (omega (arith, high)))

  -- what one is less than the other does not tie both
  not_both : (x y z : X) → lt y x ≡ true → ties lt z y ≡ true → ties lt z x ≡ true → ⊥
  not_both x y z less with_y with_x =
      let first = and_parts (not (lt z y)) (not (lt y z)) with_y in
      let second = and_parts (not (lt z x)) (not (lt x z)) with_x in
      false≢true (sym (order.chain y z x (not_true (lt y z) first.1) (not_true (lt z x) second.0)) ∙ less)

  kept_in : (z x : X) (ys : List X) → filter (ties lt z) (put_in x ys) ≡ filter (ties lt z) (x ∷ ys)
  kept_in z x [] = refl
  kept_in z x (y ∷ ys) =
      let tied : X → Bool = ties lt z in
      let rest = kept_in z x ys in
      cond_both (lt y x) (y ∷ put_in x ys) (x ∷ y ∷ ys) (λ l. filter (ties lt z) l ≡ filter (ties lt z) (x ∷ y ∷ ys))
      (λ e. ap (λ l. cond (ties lt z y) (y ∷ l) l) rest ∙ swapped (ties lt z y) (ties lt z x) y x (filter (ties lt z) ys) (not_both x y z e))
      (λ e. refl)

  is_stable : (xs : List X) → IsStableBy lt xs (sort xs)
  is_stable [] z = refl
  is_stable (x ∷ xs) z = kept_in z x (sort xs) ∙ ap (λ l. cond (ties lt z x) (x ∷ l) l) (is_stable xs z)

pub sorted_list : {X : Type 0} (cmp : X → X → Ordering) → IsTotalOrder cmp → (xs : List X)
    → (ys : List X) × IsSorted cmp ys × IsStable cmp xs ys
sorted_list {X = X} cmp total xs =
    let lt : X → X → Bool = λ x y. is_lt (cmp x y) in
    let order : IsStrictWeakOrder lt = ranks_by total (λ (x : X). x) in
    (sort lt order xs, is_sorted lt order xs, is_stable lt order xs)
