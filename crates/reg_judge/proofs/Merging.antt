-- Two lists of points that rise, merged into one that does.
use Rattle.std.proofs.Common.{◌≡◌, ◌⊎◌, inl, inr, ℕ, zero, suc, ◌≤◌, Bool, true, false, cond, List, [], ◌∷◌, Some, refl}
use Rattle.std.proofs.Common.{ap, sym, ◌∙◌, subst, arith}
use Rattle.std.specs.Prelude.{nat_le}
use Rattle.std.specs.List.{filter}
use Rattle.std.proofs.lemmas.Bool.{cases_Bool, leb-true, leb-false}
use Rattle.std.proofs.lemmas.Option.{same_Some}
use Rattle.reg_checkers.specs.declared.entries.Point.{Point}
use Rattle.reg_checkers.specs.History.{IsAt}
use Rattle.reg_judge.proofs.Filters.{InOrder, in_order_cons, in_order_rest, kept}

-- no point is before one that stands ahead of it
abbrev pub Rises : List Point → Type 0
Rises ps = InOrder (λ p q. p.at ≤ q.at) ps

-- the list with one more point, before all that are as late
abbrev pub put_in : Point → List Point → List Point
put_in p [] = p ∷ []
put_in p (q ∷ qs) = cond (nat_le p.at q.at) (p ∷ q ∷ qs) (q ∷ put_in p qs)

abbrev pub merged : List Point → List Point → List Point
merged [] qs = qs
merged (p ∷ ps) qs = put_in p (merged ps qs)

put_cases : (p q x : Point) (qs more : List Point) (b : Bool)
    → ((k : ℕ) → IsAt more k x → (p ≡ x) ⊎ ((j : ℕ) × IsAt qs j x)) → (k : ℕ)
    → IsAt (cond b (p ∷ q ∷ qs) (q ∷ more)) k x → (p ≡ x) ⊎ ((j : ℕ) × IsAt (q ∷ qs) j x)
put_cases p q x qs more true rest zero at = inl (same_Some p x at)
put_cases p q x qs more true rest (suc k) at = inr (k, at)
put_cases p q x qs more false rest zero at = inr (0, at)
put_cases p q x qs more false rest (suc k) at =
    elim (rest k at) [ inl is ↦ inl is | inr (j, there) ↦ inr (suc j, there) ]

-- what stands there is the new point, or was there
pub in_put : (p x : Point) (qs : List Point) (k : ℕ) → IsAt (put_in p qs) k x → (p ≡ x) ⊎ ((j : ℕ) × IsAt qs j x)
in_put p x [] zero at = inl (same_Some p x at)
in_put p x [] (suc k) at = absurd cc
in_put p x (q ∷ qs) k at = put_cases p q x qs (put_in p qs) (nat_le p.at q.at) (in_put p x qs) k at

pub in_merged : (x : Point) (ps qs : List Point) (k : ℕ) → IsAt (merged ps qs) k x
    → ((j : ℕ) × IsAt ps j x) ⊎ ((j : ℕ) × IsAt qs j x)
in_merged x [] qs k at = inr (k, at)
in_merged x (p ∷ ps) qs k at = elim (in_put p x (merged ps qs) k at) [
  | inl is ↦ inl (0, ap Some is)
  | inr (j, there) ↦ elim (in_merged x ps qs j there) [
    | inl (i, one) ↦ inl (suc i, one)
    | inr other ↦ inr other
  ]
]

rises_step : (p q : Point) (qs more : List Point) (b : Bool) → nat_le p.at q.at ≡ b → Rises (q ∷ qs) → Rises more
    → ((k : ℕ) (x : Point) → IsAt more k x → (p ≡ x) ⊎ ((j : ℕ) × IsAt qs j x)) → Rises (cond b (p ∷ q ∷ qs) (q ∷ more))
rises_step p q qs more true is rises rest cases =
    let le = leb-true p.at q.at is in
    in_order_cons (λ p q. p.at ≤ q.at) p (q ∷ qs) (λ j x at. first j x at le) rises
  where
    first : (j : ℕ) (x : Point) → IsAt (q ∷ qs) j x → p.at ≤ q.at → p.at ≤ x.at
    first zero x at le = let same : q.at ≡ x.at = ap (λ (y : Point). y.at) (same_Some q x at) in omega (arith, le, same)
    first (suc j) x at le = let more = rises 0 (suc j) q x refl at (omega arith) in omega (arith, le, more)
rises_step p q qs more false is rises rest cases =
    in_order_cons (λ p q. p.at ≤ q.at) q more (λ j x at. first x (cases j x at)) rest
  where
    first : (x : Point) → (p ≡ x) ⊎ ((j : ℕ) × IsAt qs j x) → q.at ≤ x.at
    first x (inl same) = let lt = leb-false p.at q.at is in let e : p.at ≡ x.at = ap (λ (y : Point). y.at) same in omega (arith, lt, e)
    first x (inr (j, there)) = rises 0 (suc j) q x refl there (omega arith)

pub rises_put : (p : Point) (qs : List Point) → Rises qs → Rises (put_in p qs)
rises_put p [] rises = in_order_cons (λ p q. p.at ≤ q.at) p [] (λ j x at. absurd (none j x at)) rises
  where
    none : (j : ℕ) (x : Point) → IsAt [] j x → ⊥
    none j x at = cc
rises_put p (q ∷ qs) rises = rises_step p q qs (put_in p qs) (nat_le p.at q.at) refl rises (rises_put p qs (in_order_rest (λ p q. p.at ≤ q.at) q qs rises)) (λ k x at. in_put p x qs k at)

pub rises_merged : (ps qs : List Point) → Rises qs → Rises (merged ps qs)
rises_merged [] qs rises = rises
rises_merged (p ∷ ps) qs rises = rises_put p (merged ps qs) (rises_merged ps qs rises)

module _ (test : Point → Bool) where
  -- a point that doesn't pass the test changes nothing of what does
  off_step : (p q : Point) (qs more : List Point) (b : Bool) → test p ≡ false → filter test more ≡ filter test qs → filter test (cond b (p ∷ q ∷ qs) (q ∷ more)) ≡ filter test (q ∷ qs)
  off_step p q qs more true off rest = ap (λ c. cond c (p ∷ filter test (q ∷ qs)) (filter test (q ∷ qs))) off
  off_step p q qs more false off rest = ap (λ l. cond (test q) (q ∷ l) l) rest

  put_off : (p : Point) (qs : List Point) → test p ≡ false → filter test (put_in p qs) ≡ filter test qs
  put_off p [] off = ap (λ c. cond c (p ∷ []) []) off
  put_off p (q ∷ qs) off = off_step p q qs (put_in p qs) (nat_le p.at q.at) off (put_off p qs off)

  pub merged_off : (ps qs : List Point) → ((k : ℕ) (x : Point) → IsAt ps k x → test x ≡ false)
      → filter test (merged ps qs) ≡ filter test qs
  merged_off [] qs off = refl
  merged_off (p ∷ ps) qs off = put_off p (merged ps qs) (off 0 p refl) ∙ merged_off ps qs (λ k x at. off (suc k) x at)

  -- one that passes comes first, if it isn't later than what does
  on_step : (p q : Point) (qs more : List Point) (b : Bool) → nat_le p.at q.at ≡ b → test p ≡ true → (test q ≡ true → p.at ≤ q.at) → filter test more ≡ p ∷ filter test qs → filter test (cond b (p ∷ q ∷ qs) (q ∷ more)) ≡ p ∷ filter test (q ∷ qs)
  on_step p q qs more true is on first rest = ap (λ c. cond c (p ∷ filter test (q ∷ qs)) (filter test (q ∷ qs))) on
  on_step p q qs more false is on first rest = elim (cases_Bool (test q)) [
    | inl passes ↦ absurd (let lt = leb-false p.at q.at is in let le = first passes in omega (arith, lt, le))
    | inr fails ↦ ap (λ c. cond c (q ∷ filter test more) (filter test more)) fails ∙ rest ∙ ap (λ c. p ∷ cond c (q ∷ filter test qs) (filter test qs)) (sym fails)
  ]

  put_on : (p : Point) (qs : List Point) → test p ≡ true → ((k : ℕ) (x : Point) → IsAt qs k x → test x ≡ true → p.at ≤ x.at) → filter test (put_in p qs) ≡ p ∷ filter test qs
  put_on p [] on first = ap (λ c. cond c (p ∷ []) []) on
  put_on p (q ∷ qs) on first = on_step p q qs (put_in p qs) (nat_le p.at q.at) refl on (first 0 q refl) (put_on p qs on (λ k x at. first (suc k) x at))

  -- of a merged list the points of one are told by a test that they pass and the others don't
  pub merged_on : (ps qs : List Point) → Rises ps → ((k : ℕ) (x : Point) → IsAt ps k x → test x ≡ true)
      → ((k : ℕ) (x : Point) → IsAt qs k x → test x ≡ false) → filter test (merged ps qs) ≡ ps
  merged_on [] qs rises on off = none qs off
    where
      none : (qs : List Point) → ((k : ℕ) (x : Point) → IsAt qs k x → test x ≡ false) → filter test qs ≡ []
      none [] off = refl
      none (q ∷ qs) off = ap (λ c. cond c (q ∷ filter test qs) (filter test qs)) (off 0 q refl) ∙ none qs (λ k x at. off (suc k) x at)
  merged_on (p ∷ ps) qs rises on off =
      let rest = merged_on ps qs (in_order_rest (λ p q. p.at ≤ q.at) p ps rises) (λ k x at. on (suc k) x at) off in
      put_on p (merged ps qs) (on 0 p refl) (λ k x at passes. first rest k x at passes) ∙ ap (λ l. p ∷ l) rest
    where
      first : filter test (merged ps qs) ≡ ps → (k : ℕ) (x : Point) → IsAt (merged ps qs) k x → test x ≡ true → p.at ≤ x.at
      first rest k x at passes =
          let there = kept test (merged ps qs) k x at passes in
          rises 0 (suc there.0) p x refl (subst (λ (l : List Point). IsAt l there.0 x) rest there.1) (omega arith)
