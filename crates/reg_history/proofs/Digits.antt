-- How many digits a small number has.
use Rattle.std.proofs.Common.{ℕ, ◌≡◌, ◌+◌, ◌/◌, ◌<◌, ◌≤◌, length, ap, ◌∙◌, arith}
use Rattle.std.specs.Fmt.{decimal}
use Rattle.itoa.proofs.Decimal.{length_one, length_two, length_pair}

pub three : (n : ℕ) → 100 ≤ n → n < 1000 → length (decimal n) ≡ 3
three n low high =
    length_pair n low (omega (arith, high)) ∙ ap (λ k. k + 2) (length_one (n / 100) (omega (arith, high)))

pub four : (n : ℕ) → 1000 ≤ n → n < 10000 → length (decimal n) ≡ 4
four n low high = length_pair n (omega (arith, low)) (omega (arith, high)) ∙ ap (λ k. k + 2) (length_two (n / 100) (omega (arith, low)) (omega (arith, high)))

pub five : (n : ℕ) → 10000 ≤ n → n < 100000 → length (decimal n) ≡ 5
five n low high = length_pair n (omega (arith, low)) (omega (arith, high)) ∙ ap (λ k. k + 2) (three (n / 100) (omega (arith, low)) (omega (arith, high)))

pub six : (n : ℕ) → 100000 ≤ n → n < 1000000 → length (decimal n) ≡ 6
six n low high = length_pair n (omega (arith, low)) (omega (arith, high)) ∙ ap (λ k. k + 2) (four (n / 100) (omega (arith, low)) (omega (arith, high)))
