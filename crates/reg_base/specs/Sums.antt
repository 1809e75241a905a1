-- Sums of values at numbers.
use Rattle.std.specs.Prelude.{ℕ, zero, suc, ◌+◌}

-- the sum of the values at the numbers below n
abbrev pub total : ℕ → (ℕ → ℕ) → ℕ
total zero value = 0
total (suc n) value = total n value + value n
