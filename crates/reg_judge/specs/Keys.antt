-- The rows of one key. To be believed: promises speak of it.
use Rattle.std.specs.Prelude.{ℕ, nat_eq, List, [], ◌∷◌, if◌then◌else◌}
use Rattle.std.specs.List.{flat_map}
use Rattle.reg_judge.specs.declared.rulings.rows.Row.{Row}

-- the row, as if its key were the only one, where it is of this key
abbrev pub of_key : ℕ → Row → List Row
of_key key row = if nat_eq row.key key then record row { key = 0 } ∷ [] else []

-- the rows of a key, as if it were the only one
abbrev pub rows_of_key : ℕ → List Row → List Row
rows_of_key key rows = flat_map (of_key key) rows
