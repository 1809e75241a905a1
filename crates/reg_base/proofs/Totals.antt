-- Sums of values at numbers.
use Rattle.std.proofs.Common.{◌≡◌, ℕ, zero, suc, ◌+◌, ◌*◌, ◌<◌, ◌≤◌, List, [], ◌∷◌, length, refl, sym, ap, inl, inr}
use Rattle.std.proofs.Common.{arith}
use Rattle.std.specs.Prelude.{cond, ◌==◌, slice_index_or}
use Rattle.std.specs.List.{sum_by}
use Rattle.std.proofs.lemmas.Bool.{cases_eq, cases_lt, cond-true, cond-false, eq-eqb, ne_eqb}
use Rattle.std.proofs.lemmas.List.Sums.{sum_by-cons}
use Rattle.std.proofs.Math.Nat.{suc-mul}
use Rattle.reg_base.specs.Sums.{total}

pub total_same : (n : ℕ) (f g : ℕ → ℕ) → ((p : ℕ) → p < n → f p ≡ g p) → total n f ≡ total n g
total_same zero f g h = refl
total_same (suc n) f g h =
    let a = total_same n f g (λ p l. h p (omega (arith, l))) in
    let b = h n (omega arith) in
    omega (arith, a, b)

pub total_both : (n : ℕ) (f g h : ℕ → ℕ) → ((p : ℕ) → p < n → h p ≡ f p + g p) → total n h ≡ total n f + total n g
total_both zero f g h e = refl
total_both (suc n) f g h e =
    let a = total_both n f g h (λ p l. e p (omega (arith, l))) in
    let b = e n (omega arith) in
    omega (arith, a, b)

pub total_least : (n : ℕ) (f g : ℕ → ℕ) → ((p : ℕ) → p < n → f p ≤ g p) → total n f ≤ total n g
total_least zero f g h = omega arith
total_least (suc n) f g h =
    let a = total_least n f g (λ p l. h p (omega (arith, l))) in
    let b = h n (omega arith) in
    omega (arith, a, b)

-- where one value changes
pub total_one : (n p : ℕ) (f g : ℕ → ℕ) → p < n → ((q : ℕ) → q < n → (q ≡ p → ⊥) → f q ≡ g q)
    → total n f + g p ≡ total n g + f p
total_one zero p f g l h = absurd (omega (arith, l))
total_one (suc n) p f g l h =
    elim (cases_eq p n) [
      | inl e ↦
          let a = total_same n f g (λ q k. h q (omega (arith, k)) (λ x. absurd (omega (arith, k, x, e)))) in
          let u = ap f e in
          let v = ap g e in
          omega (arith, a, u, v)
      | inr ne ↦
          let a = total_one n p f g (omega (arith, l, ne)) (λ q k away. h q (omega (arith, k)) away) in
          let b = h n (omega arith) (λ e. ne (sym e)) in
          omega (arith, a, b)
    ]

pub total_zero : (n : ℕ) → total n (λ _. 0) ≡ 0
total_zero zero = refl
total_zero (suc n) = let a = total_zero n in omega (arith, a)

-- one value alone
pub total_at : (n p : ℕ) (f : ℕ → ℕ) → p < n → ((q : ℕ) → q < n → (q ≡ p → ⊥) → f q ≡ 0) → total n f ≡ f p
total_at n p f l none =
    let a = total_one n p f (λ _. 0) l none in
    let b = total_zero n in
    omega (arith, a, b)

pub total_each : (n c : ℕ) → total n (λ _. c) ≡ n * c
total_each zero c = let z : total zero (λ _. c) ≡ 0 = refl in omega (arith, z)
total_each (suc n) c =
    let a = total_each n c in
    let d = suc-mul n c in
    omega (arith, a, d)

-- the same value at all but one
pub total_others : (n p c : ℕ) → p < n → total n (λ q. cond (p == q) 0 c) + c ≡ n * c
total_others n p c l =
    let a = total_one n p (λ q. cond (p == q) 0 c) (λ _. c) l (λ q _ away. cond-false (p == q) 0 c (ne_eqb p q (λ e. away (sym e)))) in
    let b = cond-true (p == p) 0 c (eq-eqb p p refl) in
    let d = total_each n c in
    omega (arith, a, b, d)

-- the values along a list
pub total_along : {X : Type 0} (f : X → ℕ) (xs : List X) (x0 : X)
    → total (length xs) (λ i. f (slice_index_or xs i x0)) ≡ sum_by f xs
total_along f [] x0 = refl
total_along f (x ∷ xs) x0 =
    let a = total_first (length xs) (λ i. f (slice_index_or (x ∷ xs) i x0)) in
    let b = total_along f xs x0 in
    let c = sum_by-cons f x xs in
    omega (arith, a, b, c)
  where
    total_first : (n : ℕ) (g : ℕ → ℕ) → total (suc n) g ≡ g 0 + total n (λ i. g (suc i))
    total_first zero g = omega arith
    total_first (suc n) g =
        let b = total_first n g in
        omega (arith, b)

-- a value is a part of the sum
pub total_part : (n p : ℕ) (f : ℕ → ℕ) → p < n → f p ≤ total n f
total_part zero p f l = absurd (omega (arith, l))
total_part (suc n) p f l = elim (cases_eq p n) [
  | inl e ↦ let b = ap f e in omega (arith, b)
  | inr ne ↦ let a = total_part n p f (omega (arith, l, ne)) in omega (arith, a)
]

-- no value, where the sum is none
pub total_none : (n : ℕ) (f : ℕ → ℕ) → total n f ≡ 0 → (p : ℕ) → p < n → f p ≡ 0
total_none n f e p l = let a = total_part n p f l in omega (arith, a, e)

-- some value, where the sum is one
pub total_some : (n : ℕ) (f : ℕ → ℕ) → 0 < total n f → (p : ℕ) × (p < n) × (0 < f p)
total_some zero f h = absurd (omega (arith, h))
total_some (suc n) f h = elim (cases_lt 0 (f n)) [
  | inl l ↦ (n, omega arith, l)
  | inr l ↦ let r = total_some n f (omega (arith, h, l)) in (r.0, omega (arith, r.1), r.2)
]
