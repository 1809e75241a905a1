-- A request has blocks of one size, which is a multiple of 16 and holds it.
use Rattle.std.proofs.Common.{◌≡◌, ℕ, suc, ◌*◌, ◌^◌, ◌%◌, ◌<◌, ◌≤◌, Bool, true, false, ltb, ltb-true, ltb-false, refl}
use Rattle.std.proofs.Common.{sym, ap, subst, ◌∙◌, arith}
use Rattle.std.proofs.Math.Nat.{pow-succ'}
use Rattle.std.proofs.Math.Pow.{pow_mono}
use Rattle.std.specs.Int.{next_multiple_of}
use Rattle.reg_heap.specs.Blocks.{IsBlockSize, step, units}

by_test : {X : Type 0} (t : Bool) → (t ≡ true → X) → (t ≡ false → X) → X
by_test true y n = y refl
by_test false y n = n refl

up_from : (u s m : ℕ) → m ≡ next_multiple_of u s * 16 → u * 16 ≤ m
up_from u s m e = omega arith

pub whole : (n m : ℕ) → IsBlockSize n m → m % 16 ≡ 0
whole n m is = let e : m ≡ next_multiple_of (units n) (step is.1) * 16 = is.2.2 in omega arith

pub holds : (n m : ℕ) → IsBlockSize n m → n ≤ m
holds n m is =
    let above : units n * 16 ≤ m = up_from (units n) (step is.1) m is.2.2 in
    omega arith

-- a power that is passed is not another's
not_passed : (j k u : ℕ) → u < 2 * 2 ^ j → 2 ^ k ≤ u → k ≤ j
not_passed j k u under over =
    by_test (ltb j k)
    (λ t. let far : 2 * 2 ^ j ≤ 2 ^ k = subst (λ (p : ℕ). p ≤ 2 ^ k) (pow-succ' 2 j) (pow_mono {i = suc j} {j = k} (ltb-true j k t)) in omega arith)
    (λ f. ltb-false j k f)

one_power : (j k u : ℕ) → 2 ^ j ≤ u → u < 2 * 2 ^ j → 2 ^ k ≤ u → u < 2 * 2 ^ k → j ≡ k
one_power j k u low high low' high' =
    let down : k ≤ j = not_passed j k u high low' in let up : j ≤ k = not_passed k j u high' low in omega arith

pub one_size : (n m m' : ℕ) → IsBlockSize n m → IsBlockSize n m' → m ≡ m'
one_size n m m' is is' =
    let r = is.2 in let r' = is'.2 in
    let same : is.1 ≡ is'.1 = one_power is.1 is'.1 (units n) r.0 r.1 r'.0 r'.1 in
    r.2 ∙ ap (λ (k : ℕ). next_multiple_of (units n) (step k) * 16) same ∙ sym r'.2
