-- The least of some counts.
use Rattle.std.proofs.Common.{◌≡◌, ◌⊎◌, ℕ, zero, suc, ◌<◌, ◌≤◌, List, [], ◌∷◌, length, min, refl, ap, ◌∙◌, inl, inr}
use Rattle.std.proofs.Common.{arith, length-set, get_or-set_same, get_or-set_other}
use Rattle.std.specs.Prelude.{slice_index, slice_set}
use Rattle.std.proofs.lemmas.Bool.{cases_eq}
use Rattle.reg_links.specs.Bounds.{least_from}

pub least_top : (n : ℕ) (cs : List ℕ) → least_from n cs ≤ n
least_top n [] = omega arith
least_top n (c ∷ cs) = let h = least_top n cs in omega (arith, h)

pub least_low : (n : ℕ) (cs : List ℕ) (i : ℕ) → i < length cs → least_from n cs ≤ slice_index cs i
least_low n [] i l = absurd (omega arith)
least_low n (c ∷ cs) zero l = omega arith
least_low n (c ∷ cs) (suc i) l = let h = least_low n cs i (omega arith) in omega (arith, h)

pub least_greatest : (n k : ℕ) (cs : List ℕ) → k ≤ n → ((i : ℕ) → i < length cs → k ≤ slice_index cs i)
    → k ≤ least_from n cs
least_greatest n k [] top low = top
least_greatest n k (c ∷ cs) top low =
    let a : k ≤ c = low 0 (omega arith) in
    let b : k ≤ least_from n cs = least_greatest n k cs top (λ i l. low (suc i) (omega arith)) in
    omega (arith, a, b)

-- it is one of them, or the number that they were compared with
pub least_is : (n : ℕ) (cs : List ℕ)
    → (least_from n cs ≡ n) ⊎ ((i : ℕ) × (i < length cs) × (slice_index cs i ≡ least_from n cs))
least_is n [] = inl refl
least_is n (c ∷ cs) = elim (cases c (least_from n cs)) [
  | inl l ↦ let a : c ≡ min c (least_from n cs) = omega (arith, l) in inr (0, omega arith, a)
  | inr l ↦ elim (least_is n cs) [
    | inl e ↦ inl (omega (arith, l, e))
    | inr h ↦ let a = h.1 in let b = h.2 in let d : slice_index cs h.0 ≡ min c (least_from n cs) = omega (arith, b, l) in inr (suc h.0, omega (arith, a), d)
  ]
]
  where
    cases : (a b : ℕ) → (a ≤ b) ⊎ (b < a)
    cases a b = grind arith

-- a number above one of them does not matter
pub least_within : (n m : ℕ) (cs : List ℕ) (i : ℕ) → i < length cs → slice_index cs i ≤ n → n ≤ m
    → least_from m cs ≡ least_from n cs
least_within n m cs i l low le =
    let top = least_top n cs in
    let up : least_from n cs ≤ least_from m cs = least_greatest m (least_from n cs) cs (omega (arith, top, le)) (λ j k. least_low n cs j k) in
    let down : least_from m cs ≤ least_from n cs = elim (least_is n cs) [
      | inl e ↦ let a = least_low m cs i l in omega (arith, a, e, low)
      | inr h ↦ let a = least_low m cs h.0 h.1 in let b = h.2 in omega (arith, a, b)
    ] in
    omega (arith, up, down)

module _ (n k : ℕ) (cs : List ℕ) (i : ℕ) (l : i < length cs) (more : slice_index cs i ≤ k) where
  raised_at : (j : ℕ) → slice_index cs j ≤ slice_index (slice_set cs i k) j
  raised_at j = elim (cases_eq j i) [
    | inl q ↦
        let a : slice_index (slice_set cs i k) j ≡ k = ap (slice_index (slice_set cs i k)) q ∙ get_or-set_same cs i k 0 l in
        let b : slice_index cs j ≡ slice_index cs i = ap (slice_index cs) q in
        omega (arith, a, b, more)
    | inr ne ↦ let a : slice_index (slice_set cs i k) j ≡ slice_index cs j = get_or-set_other cs i j k 0 ne in omega (arith, a)
  ]

  -- where one rises, the least does not fall
  pub least_up : least_from n cs ≤ least_from n (slice_set cs i k)
  least_up =
      let len = length-set cs i k in
      least_greatest n (least_from n cs) (slice_set cs i k) (least_top n cs) (λ j m. let a = least_low n cs j (omega (arith, len, m)) in let b = raised_at j in omega (arith, a, b))

  -- where one rises that is above the least, this stays
  pub least_stays : least_from n cs < slice_index cs i → slice_index cs i ≤ n
      → least_from n (slice_set cs i k) ≡ least_from n cs
  least_stays above top =
      let len = length-set cs i k in
      let up = least_up in
      let down : least_from n (slice_set cs i k) ≤ least_from n cs = elim (least_is n cs) [
        | inl e ↦ absurd (omega (arith, e, above, top))
        | inr h ↦
            let at = h.2 in
            let within = h.1 in
            let ne : h.0 ≡ i → ⊥ = λ q. let same : slice_index cs h.0 ≡ slice_index cs i = ap (slice_index cs) q in absurd (omega (arith, same, at, above)) in
            let a : slice_index (slice_set cs i k) h.0 ≡ slice_index cs h.0 = get_or-set_other cs i h.0 k 0 ne in
            let b = least_low n (slice_set cs i k) h.0 (omega (arith, len, within)) in
            omega (arith, a, b, at)
      ] in
      omega (arith, up, down)

-- the least so far and the counts that are left
pub least_more : (n c : ℕ) (cs : List ℕ) → least_from (min n c) cs ≡ min c (least_from n cs)
least_more n c [] = omega arith
least_more n c (x ∷ xs) = let h = least_more n c xs in omega (arith, h)
