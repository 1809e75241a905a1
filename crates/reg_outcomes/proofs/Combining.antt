-- Combinations of values, and those that no outcome has.
use Rattle.std.proofs.Common.{◌≡◌, ◌⊎◌, inl, inr, ℕ, zero, suc, ◌+◌, ◌<◌, ◌≤◌, List, [], ◌∷◌, ◌++◌, length, map, take}
use Rattle.std.proofs.Common.{drop, get_or, refl, ap, sym, ◌∙◌, subst, arith, length-append}
use Rattle.std.proofs.lemmas.Bool.{cases_eq}
use Rattle.std.proofs.lemmas.List.{length-map, length-drop, take_more}
use Rattle.std.proofs.Math.Seq.{take-append_seam}
use Rattle.std.proofs.lemmas.Option.{same_Some, slice_get_read, slice_get_within}
use Rattle.reg_base.specs.Order.{In}
use Rattle.reg_base.proofs.Lists.{in_cases, in_left, in_right}
use Rattle.reg_checkers.specs.History.{IsAt}
use Rattle.reg_checkers.proofs.Places.{IsAt-map, at_map}
use Rattle.reg_outcomes.specs.declared.told.ToldAnswer.{ToldAnswer}
use Rattle.reg_outcomes.specs.Interleavings.{Interleaving}
use Rattle.reg_outcomes.specs.Nevers.{AreOver, IsNever, StandsAt, tells}
use Rattle.reg_outcomes.specs.Combining.{AreCombinations, AreOnce, AreValuesAt, IsCombination, IsLonger, IsLongerOf}
use Rattle.reg_outcomes.specs.Combining.{cut_all}
use Rattle.reg_outcomes.proofs.Growing.{IsCut, at_in, in_at, is_cut, same_place}
use Rattle.reg_outcomes.proofs.Stepping.{in_cases as in_one, in_more}

module _ {X : Type 0} where
  at_split : (xs ys : List X) (k : ℕ) (x : X) → IsAt (xs ++ ys) k x → IsAt xs k x ⊎ ((j : ℕ) × (k ≡ length xs + j) × IsAt ys j x)
  at_split [] ys k x at = inr (k, omega arith, at)
  at_split (y ∷ xs) ys zero x at = inl at
  at_split (y ∷ xs) ys (suc k) x at = elim (at_split xs ys k x at) [ inl h ↦ inl h | inr there ↦ inr (there.0, (let e = there.1 in omega (arith, e)), there.2) ]

  at_front : (xs ys : List X) (k : ℕ) (x : X) → IsAt xs k x → IsAt (xs ++ ys) k x
  at_front [] ys k x at = absurd cc
  at_front (y ∷ xs) ys zero x at = at
  at_front (y ∷ xs) ys (suc k) x at = at_front xs ys k x at

  at_end : (xs : List X) (x : X) → IsAt (xs ++ x ∷ []) (length xs) x
  at_end [] x = refl
  at_end (y ∷ xs) x = at_end xs x

  at_drop : (n : ℕ) (xs : List X) (k : ℕ) (x : X) → IsAt (drop n xs) k x → IsAt xs (n + k) x
  at_drop zero xs k x at = let e : k ≡ 0 + k = omega arith in subst (λ m. IsAt xs m x) e at
  at_drop (suc n) [] k x at = absurd cc
  at_drop (suc n) (y ∷ xs) k x at = let e : suc (n + k) ≡ suc n + k = omega arith in subst (λ m. IsAt (y ∷ xs) m x) e (at_drop n xs k x at)

  -- a list with a place is one and the values behind it, with its last one apart
  last_apart : (xs : List X) (n : ℕ) → length xs ≡ n + 1 → (ys : List X) × (x : X) × (xs ≡ ys ++ x ∷ []) × (length ys ≡ n)
  last_apart [] n e = absurd (omega (arith, e))
  last_apart (x ∷ []) n e = ([], x, refl, omega (arith, e))
  last_apart (x ∷ y ∷ xs) zero e = absurd (omega (arith, e))
  last_apart (x ∷ y ∷ xs) (suc n) e = let rest = last_apart (y ∷ xs) n (omega (arith, e)) in (x ∷ rest.0, rest.1, ap (λ l. x ∷ l) rest.2, ap suc rest.3)

module _ (outcomes : List (List ToldAnswer)) where
  pub first_combination : AreCombinations outcomes 0 ([] ∷ [])
  first_combination = record {
    only = λ c h. elim h [
      | inl e ↦ subst (λ d. IsCombination outcomes 0 d) (sym e) (record { count = refl; each = λ j v at. absurd cc })
      | inr none ↦ absurd none
    ];
    all = λ c is. inl (nothing c is.count);
    once = (λ c h. absurd h, tt);
  }
    where
      nothing : (c : List ToldAnswer) → length c ≡ 0 → c ≡ []
      nothing [] e = refl
      nothing (v ∷ c) e = absurd (omega (arith, e))

  pub is_longer : (k : ℕ) (values c to : List ToldAnswer) → AreValuesAt outcomes k values → IsCombination outcomes k c
      → IsLonger values c to → IsCombination outcomes (k + 1) to
  is_longer k values c to are is (v, there, e) = subst (λ t. IsCombination outcomes (k + 1) t) (sym e) (record {
    count = (let a = length-append c (v ∷ []) in let b = is.count in omega (arith, a, b));
    each = λ j w at. elim (at_split c (v ∷ []) j w at) [ inl front ↦ is.each j w front | inr behind ↦ last j w behind ];
  })
    where
      last : (j : ℕ) (w : ToldAnswer) → ((i : ℕ) × (j ≡ length c + i) × IsAt (v ∷ []) i w) → StandsAt outcomes j w
      last j w (zero, at, same) = subst (λ n. StandsAt outcomes n w) (sym (at ∙ (let b = is.count in omega (arith, b)))) (subst (λ u. StandsAt outcomes k u) (same_Some v w same) (are.only v there))
      last j w (suc i, at, same) = absurd cc

  -- the combinations with one place more
  pub next_all : (k : ℕ) (values : List ToldAnswer) (list next : List (List ToldAnswer)) → AreValuesAt outcomes k values
      → AreCombinations outcomes k list
      → ((c : List ToldAnswer) → In c next → IsLongerOf values list c) → ((c : List ToldAnswer) → IsLongerOf values list c → In c next) → AreOnce next → AreCombinations outcomes (k + 1) next
  next_all k values list next are all only added once = record {
    only = λ c h. let from = only c h in is_longer k values from.0 c are (all.only from.0 from.1) from.2;
    all = λ c is. back c is (last_apart c k is.count);
    once = once;
  }
    where
      back : (c : List ToldAnswer) → IsCombination outcomes (k + 1) c → ((ys : List ToldAnswer) × (x : ToldAnswer) × (c ≡ ys ++ x ∷ []) × (length ys ≡ k)) → In c next
      back c is (ys, x, e, count) =
          let front : IsCombination outcomes k ys = record { count = count; each = λ j v at. is.each j v (subst (λ l. IsAt l j v) (sym e) (at_front ys (x ∷ []) j v at)) } in
          let stands : StandsAt outcomes k x = is.each k x (subst (λ l. IsAt l k x) (sym e) (subst (λ n. IsAt (ys ++ x ∷ []) n x) count (at_end ys x))) in
          added c (ys, all.all ys front, (x, are.all x stands, e))

  module _ (first : List ToldAnswer) (at : IsAt outcomes 0 first) where
    -- a combination that no outcome begins with has an end
    ended : (k : ℕ) → k ≤ length first → (c : List ToldAnswer) → IsCombination outcomes k c → ¬ In c (map (take k) outcomes) → IsNever outcomes (c ++ drop k first)
    ended k le c is none = record {
      whole = (first, at, (let a = length-append c (drop k first) in let b = length-drop k first in let d = is.count in omega (arith, a, b, d, le)));
      each = λ j v here. elim (at_split c (drop k first) j v here) [
        | inl front ↦ is.each j v front
        | inr behind ↦ (0, first, at, subst (λ n. IsAt first n v) (sym (behind.1 ∙ ap (λ n. n + behind.0) is.count)) (at_drop k first behind.0 v behind.2))
      ];
      none = λ i here. none (subst (λ t. In t (map (take k) outcomes)) (front (drop k first)) (in_at (map (take k) outcomes) i (take k (c ++ drop k first)) (IsAt-map (take k) outcomes i (c ++ drop k first) here)));
    }
      where
        front : (s : List ToldAnswer) → take k (c ++ s) ≡ c
        front s = ap (λ n. take n (c ++ s)) (sym is.count) ∙ take-append_seam c s

    -- more combinations than outcomes
    pub over : {K : Type 0} (read : K → List ToldAnswer) (k most : ℕ) (ks : List K) → k ≤ length first → AreOnce (map read ks) → ((c : List ToldAnswer) → In c (map read ks) → IsCombination outcomes k c) → length outcomes + most < length ks → AreOver outcomes most
    over {K} read k most ks le apart are more =
        let left : List K = cut_all read (map (take k) outcomes) ks in
        let is = is_cut read (map (take k) outcomes) ks apart in
        let lists : List (List ToldAnswer) = map read left in
        record {
          nevers = map (λ c. c ++ drop k first) lists;
          more = (let a = is.many in let b = length-map outcomes (take k) in let d = length-map left read in let e = length-map lists (λ c. c ++ drop k first) in omega (arith, a, b, d, e, more));
          once = λ i j told here there.
              let a = at_map (λ c. c ++ drop k first) lists i told here in
              let b = at_map (λ c. c ++ drop k first) lists j told there in
              let same : a.0 ≡ b.0 = front a.0 (are a.0 (is.kept a.0 (in_at lists i a.0 a.1))) told a.2 ∙ sym (front b.0 (are b.0 (is.kept b.0 (in_at lists j b.0 b.1))) told b.2) in
              same_place lists is.apart i j a.0 a.1 (subst (λ c. IsAt lists j c) (sym same) b.1);
          each = λ i told here.
              let a = at_map (λ c. c ++ drop k first) lists i told here in
              let within = in_at lists i a.0 a.1 in
              subst (λ t. IsNever outcomes t) a.2 (ended k le a.0 (are a.0 (is.kept a.0 within)) (is.none a.0 within));
        }
      where
        front : (c : List ToldAnswer) → IsCombination outcomes k c → (told : List ToldAnswer) → c ++ drop k first ≡ told → c ≡ take k told
        front c is told e = sym (take-append_seam c (drop k first)) ∙ ap (λ n. take n (c ++ drop k first)) is.count ∙ ap (take k) e

    -- those that are left are all that no outcome has
    pub left_never : {K : Type 0} (read : K → List ToldAnswer) (ks left : List K) → AreCombinations outcomes (length first) (map read ks) → IsCut read outcomes ks left → (told : List ToldAnswer) → In told (map read left) → IsNever outcomes told
    left_never read ks left all is told h =
        let c = all.only told (is.kept told h) in
        record { whole = (first, at, c.count); each = c.each; none = λ i here. is.none told h (in_at outcomes i told here) }

    pub never_left : {K : Type 0} (read : K → List ToldAnswer) (ks left : List K) → AreCombinations outcomes (length first) (map read ks) → IsCut read outcomes ks left → (told : List ToldAnswer) → IsNever outcomes told → In told (map read left)
    never_left read ks left all is told never =
        let same : never.whole.0 ≡ first = same_Some never.whole.0 first (sym never.whole.1 ∙ at) in
        is.all told (all.all told (record { count = never.whole.2 ∙ ap length same; each = never.each })) (λ n. let there = at_in outcomes told n in never.none there.0 there.1)

-- The values at a place of the first n outcomes.
pub record AreFirstValues (outcomes : List (List ToldAnswer)) (k n : ℕ) (values : List ToldAnswer) : Type 0 where
  pub only : (v : ToldAnswer) → In v values → StandsAt outcomes k v
  pub all : (i : ℕ) (o : List ToldAnswer) (v : ToldAnswer) → i < n → IsAt outcomes i o → IsAt o k v → In v values

module _ (outcomes : List (List ToldAnswer)) (k n : ℕ) (values : List ToldAnswer) where
  -- the next outcome has no new one
  pub none_new : (o : List ToldAnswer) → IsAt outcomes n o → ((v : ToldAnswer) → IsAt o k v → In v values)
      → AreFirstValues outcomes k n values → AreFirstValues outcomes k (n + 1) values
  none_new o at there are = record {
    only = are.only;
    all = λ i p v lt here stands. elim (cases_eq i n) [
      | inl e ↦ there v (subst (λ l. IsAt l k v) (same_Some p o (sym (subst (λ j. IsAt outcomes j p) e here) ∙ at)) stands)
      | inr ne ↦ are.all i p v (omega (arith, lt, ne)) here stands
    ];
  }

  -- or this one
  pub one_new : (o : List ToldAnswer) (w : ToldAnswer) → IsAt outcomes n o → IsAt o k w
      → AreFirstValues outcomes k n values → AreFirstValues outcomes k (n + 1) (values ++ w ∷ [])
  one_new o w at stands are = none_new-at (record {
    only = λ v h. elim (in_cases v values (w ∷ []) h) [
      | inl old ↦ are.only v old
      | inr new ↦ elim new [ inl e ↦ (n, o, at, subst (λ u. IsAt o k u) (sym e) stands) | inr none ↦ absurd none ]
    ];
    all = λ i p v lt here there. in_left v values (w ∷ []) (are.all i p v lt here there);
  })
    where
      none_new-at : AreFirstValues outcomes k n (values ++ w ∷ []) → AreFirstValues outcomes k (n + 1) (values ++ w ∷ [])
      none_new-at more = record {
        only = more.only;
        all = λ i p v lt here there. elim (cases_eq i n) [
          | inl e ↦
              let same : p ≡ o = same_Some p o (sym (subst (λ j. IsAt outcomes j p) e here) ∙ at) in
              in_right v values (w ∷ []) (inl (same_Some v w (sym (subst (λ l. IsAt l k v) same there) ∙ stands)))
          | inr ne ↦ more.all i p v (omega (arith, lt, ne)) here there
        ];
      }

  pub values_all : length outcomes ≤ n → AreFirstValues outcomes k n values → AreValuesAt outcomes k values
  values_all le are = record {
    only = are.only;
    all = λ v stands. are.all stands.0 stands.1 v (let l = slice_get_within outcomes stands.0 stands.1 stands.2 in omega (arith, l, le)) stands.2 stands.3;
  }

-- one value more
pub longer_more : (values c to : List ToldAnswer) (n : ℕ) (d : ToldAnswer) → n < length values
    → IsLonger (take n values) c to ⊎ (to ≡ c ++ get_or values n d ∷ []) → IsLonger (take (n + 1) values) c to
longer_more values c to n d lt (inl (v, there, e)) = (v, subst (λ l. In v l) (sym (take_more values n d lt)) (in_left v (take n values) (get_or values n d ∷ []) there), e)
longer_more values c to n d lt (inr e) = (get_or values n d, subst (λ l. In (get_or values n d) l) (sym (take_more values n d lt)) (in_right (get_or values n d) (take n values) (get_or values n d ∷ []) (inl refl)), e)

pub longer_cases : (values c to : List ToldAnswer) (n : ℕ) (d : ToldAnswer) → n < length values
    → IsLonger (take (n + 1) values) c to → IsLonger (take n values) c to ⊎ (to ≡ c ++ get_or values n d ∷ [])
longer_cases values c to n d lt (v, there, e) =
    elim (in_cases v (take n values) (get_or values n d ∷ []) (subst (λ l. In v l) (take_more values n d lt) there)) [
      | inl old ↦ inl (v, old, e)
      | inr new ↦ elim new [ inl same ↦ inr (e ∙ ap (λ w. c ++ w ∷ []) same) | inr none ↦ absurd none ]
    ]

module _ {K : Type 0} (read : K → List ToldAnswer) (values : List ToldAnswer) (xs : List K) (x : K) (to : List ToldAnswer) where
  pub longer_of_more : IsLongerOf values (map read xs) to ⊎ IsLonger values (read x) to
      → IsLongerOf values (map read (xs ++ x ∷ [])) to
  longer_of_more (inl (c, there, longer)) = (c, in_more read xs x c (inl there), longer)
  longer_of_more (inr longer) = (read x, in_more read xs x (read x) (inr refl), longer)

  pub longer_of_cases : IsLongerOf values (map read (xs ++ x ∷ [])) to
      → IsLongerOf values (map read xs) to ⊎ IsLonger values (read x) to
  longer_of_cases (c, there, longer) = elim (in_more_cases c there) [ inl old ↦ inl (c, old, longer) | inr e ↦ inr (subst (λ d. IsLonger values d to) e longer) ]
    where
      in_more_cases : (c : List ToldAnswer) → In c (map read (xs ++ x ∷ [])) → In c (map read xs) ⊎ (c ≡ read x)
      in_more_cases c h = in_one read xs x c h

-- what the n-th outcome tells
pub at_told : (outcomes : List Interleaving) (n : ℕ) (item : Interleaving) (told : List ToldAnswer)
    → n < length outcomes → item ≡ get_or outcomes n item → item.told ≡ told → IsAt (tells outcomes) n told
at_told outcomes n item told lt is same = subst (λ t. IsAt (tells outcomes) n t) same (IsAt-map (λ i. i.told) outcomes n item (slice_get_read outcomes (length outcomes) n item refl lt is))
