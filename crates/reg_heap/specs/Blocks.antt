-- The blocks of a heap over lent memory: how many bytes one has for a request.
use Rattle.std.specs.Prelude.{ℕ, ◌≡◌, ◌*◌, ◌/◌, ◌^◌, ◌<◌, ◌≤◌, max}
use Rattle.std.specs.Int.{div_ceil, next_multiple_of}

-- the units of 16 bytes that a request of n bytes takes, at least one
abbrev pub units : ℕ → ℕ
units n = max 1 (div_ceil n 16)

-- four sizes to each doubling: this many units beyond 2 ^ k are rounded up to
abbrev pub step : ℕ → ℕ
step k = max 1 (2 ^ k / 4)

-- m is that many units, of which there are 2 ^ k and less than twice as many, in bytes
abbrev pub IsRounded : ℕ → ℕ → ℕ → Type 0
IsRounded k u m = (2 ^ k ≤ u) × (u < 2 * 2 ^ k) × (m ≡ next_multiple_of u (step k) * 16)

-- a block for a request of n bytes has m bytes
abbrev pub IsBlockSize : ℕ → ℕ → Type 0
IsBlockSize n m = (n < 2 ^ 63) × (k : ℕ) × IsRounded k (units n) m
