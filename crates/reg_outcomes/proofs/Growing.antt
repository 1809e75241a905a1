-- Sets that grow, and lists that are cut out of them.
use Rattle.std.proofs.Common.{◌≡◌, ◌≢◌, ◌⊎◌, inl, inr, ℕ, zero, suc, ◌+◌, ◌≤◌, Bool, true, false, List, [], ◌∷◌, length}
use Rattle.std.proofs.Common.{map, cond, Some, refl, ap, sym, ◌∙◌, subst, arith}
use Rattle.std.specs.declared.cmp.Ordering.{Ordering}
use Rattle.std.specs.declared.cmp.Ordering.TheVariants.{Less, Equal, Greater}
use Rattle.std.specs.Ordering.{is_eq, match_ordering}
use Rattle.std.specs.Cmp.Lexicographic.{slice_cmp}
use Rattle.std.specs.BTreeSet.{insert_key}
use Rattle.std.specs.List.{AllByRecursion}
use Rattle.std.specs.List.Sorted.{IsStrictlySortedBy}
use Rattle.std.proofs.lemmas.Cmp.{tied_itself}
use Rattle.std.proofs.lemmas.Map.Keys.{sorted_head, sorted_tail}
use Rattle.std.proofs.lemmas.Option.{same_Some}
use Rattle.reg_base.specs.Order.{In}
use Rattle.reg_checkers.specs.History.{IsAt}
use Rattle.reg_outcomes.specs.declared.told.ToldAnswer.{ToldAnswer}
use Rattle.reg_outcomes.specs.Told.{told_cmp}
use Rattle.reg_outcomes.proofs.ToldOrder.{outcomes_exact, outcomes_total}
use Rattle.reg_outcomes.specs.Combining.{AreOnce, Grows, cut, cut_all}
use Rattle.reg_outcomes.proofs.Comparing.{equal_is}

module _ {X : Type 0} where
  pub grows_none : (P : X → Type 0) (old : List X) → ((x : X) → P x → ⊥) → Grows P old old
  grows_none P old none = record { kept = λ x h. h; only = λ x h. inl h; added = λ x p. absurd (none x p) }

  -- first those of P, and then those of Q
  pub grows_then : (P Q R : X → Type 0) (a b c : List X) → ((x : X) → P x ⊎ Q x → R x) → ((x : X) → R x → P x ⊎ Q x)
      → Grows P a b → Grows Q b c → Grows R a c
  grows_then P Q R a b c to from first second = record {
    kept = λ x h. second.kept x (first.kept x h);
    only = λ x h. elim (second.only x h) [ inl old ↦ elim (first.only x old) [ inl o ↦ inl o | inr p ↦ inr (to x (inl p)) ] | inr q ↦ inr (to x (inr q)) ];
    added = λ x r. elim (from x r) [ inl p ↦ second.kept x (first.added x p) | inr q ↦ second.added x q ];
  }

  pub at_in : (xs : List X) (x : X) → In x xs → (k : ℕ) × IsAt xs k x
  at_in [] x h = absurd h
  at_in (y ∷ xs) x (inl e) = (0, ap Some (sym e))
  at_in (y ∷ xs) x (inr h) = let there = at_in xs x h in (suc there.0, there.1)

  pub in_at : (xs : List X) (k : ℕ) (x : X) → IsAt xs k x → In x xs
  in_at [] k x at = absurd cc
  in_at (y ∷ xs) zero x at = inl (sym (same_Some y x at))
  in_at (y ∷ xs) (suc k) x at = inr (in_at xs k x at)

  pub same_place : (xs : List X) → AreOnce xs → (i j : ℕ) (x : X) → IsAt xs i x → IsAt xs j x → i ≡ j
  same_place [] once i j x at here = absurd cc
  same_place (y ∷ xs) once zero zero x at here = refl
  same_place (y ∷ xs) once zero (suc j) x at here = absurd (once.0 x (in_at xs j x here) (same_Some y x at))
  same_place (y ∷ xs) once (suc i) zero x at here = absurd (once.0 x (in_at xs i x at) (same_Some y x here))
  same_place (y ∷ xs) once (suc i) (suc j) x at here = ap suc (same_place xs once.1 i j x at here)

module _ {K : Type 0} (read : K → List ToldAnswer) where
  abbrev by : K → K → Ordering
  by a b = slice_cmp told_cmp (read a) (read b)

  abbrev put_at : Ordering → K → K → List K → List K
  put_at o k x xs = match_ordering o (k ∷ x ∷ xs) (x ∷ xs) (x ∷ insert_key by xs k)

  kept_at : (o : Ordering) (k x : K) (xs : List K) (y : List ToldAnswer) → (In y (map read xs) → In y (map read (insert_key by xs k))) → In y (map read (x ∷ xs)) → In y (map read (put_at o k x xs))
  kept_at Less k x xs y rest h = inr h
  kept_at Equal k x xs y rest h = h
  kept_at Greater k x xs y rest (inl e) = inl e
  kept_at Greater k x xs y rest (inr h) = inr (rest h)

  kept : (k : K) (xs : List K) (y : List ToldAnswer) → In y (map read xs) → In y (map read (insert_key by xs k))
  kept k [] y h = absurd h
  kept k (x ∷ xs) y h = kept_at (by k x) k x xs y (kept k xs y) h

  only_at : (o : Ordering) (k x : K) (xs : List K) (y : List ToldAnswer) → (In y (map read (insert_key by xs k)) → In y (map read xs) ⊎ (y ≡ read k)) → In y (map read (put_at o k x xs)) → In y (map read (x ∷ xs)) ⊎ (y ≡ read k)
  only_at Less k x xs y rest (inl e) = inr e
  only_at Less k x xs y rest (inr h) = inl h
  only_at Equal k x xs y rest h = inl h
  only_at Greater k x xs y rest (inl e) = inl (inl e)
  only_at Greater k x xs y rest (inr h) = elim (rest h) [ inl old ↦ inl (inr old) | inr e ↦ inr e ]

  only : (k : K) (xs : List K) (y : List ToldAnswer) → In y (map read (insert_key by xs k)) → In y (map read xs) ⊎ (y ≡ read k)
  only k [] y (inl e) = inr e
  only k [] y (inr h) = absurd h
  only k (x ∷ xs) y h = only_at (by k x) k x xs y (only k xs y) h

  new_at : (o : Ordering) (k x : K) (xs : List K) → by k x ≡ o → In (read k) (map read (insert_key by xs k)) → In (read k) (map read (put_at o k x xs))
  new_at Less k x xs e rest = inl refl
  new_at Equal k x xs e rest = inl (outcomes_exact (read k) (read x) e)
  new_at Greater k x xs e rest = inr rest

  new : (k : K) (xs : List K) → In (read k) (map read (insert_key by xs k))
  new k [] = inl refl
  new k (x ∷ xs) = new_at (by k x) k x xs refl (new k xs)

  -- one key was put where there was none
  pub put_first : (k : K) (told : List ToldAnswer) (old now : List K) → read k ≡ told → old ≡ []
      → now ≡ insert_key by old k → map read now ≡ told ∷ []
  put_first k told old now same none is = ap (map read) (is ∙ ap (λ ks. insert_key by ks k) none) ∙ ap (λ t. t ∷ []) same

  -- one key was put
  pub grows_put : (k : K) (told : List ToldAnswer) (old now : List K) → read k ≡ told → now ≡ insert_key by old k
      → Grows (λ y. y ≡ told) (map read old) (map read now)
  grows_put k told old now same is = subst (λ l. Grows (λ y. y ≡ told) (map read old) (map read l)) (sym is) (record {
    kept = λ y h. kept k old y h;
    only = λ y h. elim (only k old y h) [ inl o ↦ inl o | inr e ↦ inr (e ∙ same) ];
    added = λ y e. subst (λ t. In t (map read (insert_key by old k))) (same ∙ sym e) (new k old);
  })

  below : (k : K) (ks : List K) (y : List ToldAnswer) → AllByRecursion (λ q. by k q ≡ Less) ks → In y (map read ks) → read k ≢ y
  below k [] y less h = absurd h
  below k (x ∷ ks) y less (inl e) = λ is.
      let tied : by k x ≡ Equal = ap (λ t. slice_cmp told_cmp (read k) t) (sym (is ∙ e)) ∙ tied_itself outcomes_total (read k) in
      let lower : by k x ≡ Less = less.0 in
      cc
  below k (x ∷ ks) y less (inr h) = below k ks y less.1 h

  -- keys in order hold each list once
  pub once : (ks : List K) → IsStrictlySortedBy by ks → AreOnce (map read ks)
  once [] ordered = tt
  once (k ∷ ks) ordered = (λ y h. below k ks y (sorted_head by k ks ordered) h, once ks (sorted_tail by k ks ordered))

  -- one list was cut out
  module _ (told : List ToldAnswer) where
    abbrev hit : K → Bool
    hit k = is_eq (slice_cmp told_cmp told (read k))

    abbrev cut_at : Bool → K → List K → List K
    cut_at b k ks = cond b ks (k ∷ cut read told ks)

    left_at : (b : Bool) (k : K) (ks : List K) (y : List ToldAnswer) → (In y (map read (cut read told ks)) → In y (map read ks)) → In y (map read (cut_at b k ks)) → In y (map read (k ∷ ks))
    left_at true k ks y rest h = inr h
    left_at false k ks y rest (inl e) = inl e
    left_at false k ks y rest (inr h) = inr (rest h)

    left : (ks : List K) (y : List ToldAnswer) → In y (map read (cut read told ks)) → In y (map read ks)
    left [] y h = h
    left (k ∷ ks) y h = left_at (hit k) k ks y (left ks y) h

    other_at : (b : Bool) (k : K) (ks : List K) (y : List ToldAnswer) → hit k ≡ b → y ≢ told → (In y (map read ks) → In y (map read (cut read told ks))) → In y (map read (k ∷ ks)) → In y (map read (cut_at b k ks))
    other_at true k ks y is apart rest (inl e) = absurd (apart (e ∙ sym (outcomes_exact told (read k) (equal_is (slice_cmp told_cmp told (read k)) is))))
    other_at true k ks y is apart rest (inr h) = h
    other_at false k ks y is apart rest (inl e) = inl e
    other_at false k ks y is apart rest (inr h) = inr (rest h)

    other : (ks : List K) (y : List ToldAnswer) → y ≢ told → In y (map read ks) → In y (map read (cut read told ks))
    other [] y apart h = h
    other (k ∷ ks) y apart h = other_at (hit k) k ks y refl apart (other ks y apart) h

    gone_at : (b : Bool) (k : K) (ks : List K) (y : List ToldAnswer) → hit k ≡ b → AreOnce (map read (k ∷ ks)) → (AreOnce (map read ks) → In y (map read (cut read told ks)) → y ≢ told) → In y (map read (cut_at b k ks)) → y ≢ told
    gone_at true k ks y is once rest h = λ e. once.0 y h (sym (e ∙ outcomes_exact told (read k) (equal_is (slice_cmp told_cmp told (read k)) is)))
    gone_at false k ks y is once rest (inl e) = λ f.
        let tied : slice_cmp told_cmp told (read k) ≡ Equal = ap (λ t. slice_cmp told_cmp told t) (sym (sym f ∙ e)) ∙ tied_itself outcomes_total told in
        let yes : true ≡ false = sym (ap is_eq tied) ∙ is in
        cc
    gone_at false k ks y is once rest (inr h) = rest once.1 h

    gone : (ks : List K) (y : List ToldAnswer) → AreOnce (map read ks) → In y (map read (cut read told ks)) → y ≢ told
    gone [] y once h = absurd h
    gone (k ∷ ks) y once h = gone_at (hit k) k ks y refl once (gone ks y) h

    once_at : (b : Bool) (k : K) (ks : List K) → AreOnce (map read (k ∷ ks)) → AreOnce (map read (cut read told ks)) → AreOnce (map read (cut_at b k ks))
    once_at true k ks once rest = once.1
    once_at false k ks once rest = (λ y h. once.0 y (left ks y h), rest)

    still_once : (ks : List K) → AreOnce (map read ks) → AreOnce (map read (cut read told ks))
    still_once [] once = tt
    still_once (k ∷ ks) once = once_at (hit k) k ks once (still_once ks once.1)

    short_at : (b : Bool) (k : K) (ks : List K) → length ks ≤ 1 + length (cut read told ks) → length (k ∷ ks) ≤ 1 + length (cut_at b k ks)
    short_at true k ks rest = omega arith
    short_at false k ks rest = omega (arith, rest)

    short : (ks : List K) → length ks ≤ 1 + length (cut read told ks)
    short [] = omega arith
    short (k ∷ ks) = short_at (hit k) k ks (short ks)

  -- All of these lists were cut out: what is left, and how much at least.
  pub record IsCut (os : List (List ToldAnswer)) (ks left : List K) : Type 0 where
    pub kept : (y : List ToldAnswer) → In y (map read left) → In y (map read ks)
    pub none : (y : List ToldAnswer) → In y (map read left) → ¬ In y os
    pub all : (y : List ToldAnswer) → In y (map read ks) → ¬ In y os → In y (map read left)
    pub apart : AreOnce (map read left)
    pub many : length ks ≤ length os + length left

  pub is_cut : (os : List (List ToldAnswer)) (ks : List K) → AreOnce (map read ks) → IsCut os ks (cut_all read os ks)
  is_cut [] ks once = record { kept = λ y h. h; none = λ y h n. absurd n; all = λ y h n. h; apart = once; many = omega arith }
  is_cut (o ∷ os) ks once =
      let rest = is_cut os (cut read o ks) (still_once o ks once) in
      record {
        kept = λ y h. left o ks y (rest.kept y h);
        none = λ y h n. elim n [ inl e ↦ gone o ks y once (rest.kept y h) e | inr there ↦ rest.none y h there ];
        all = λ y h n. rest.all y (other o ks y (λ e. n (inl e)) h) (λ there. n (inr there));
        apart = rest.apart;
        many = (let a = short o ks in let b = rest.many in omega (arith, a, b));
      }
