-- What a word decides.
use Rattle.std.specs.Prelude.{ℕ, ◌%◌, Bool, nat_lt}

-- whether something happens, by this word, that does so the given number of times in a hundred
abbrev pub says : ℕ → ℕ → Bool
says odds word = nat_lt (word % 100) odds
