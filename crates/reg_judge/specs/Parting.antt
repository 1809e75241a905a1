-- Rows parted by key. It carries a proof: no promise speaks of it.
use Rattle.std.specs.Prelude.{ℕ, ◌≡◌, List, ◌++◌, length, Vec}
use Rattle.reg_checkers.specs.History.{IsAt}
use Rattle.reg_judge.specs.declared.rulings.rows.Row.{Row}
use Rattle.reg_judge.specs.Keys.{of_key, rows_of_key}

-- the rows of each key
abbrev pub AreParts : {A : Type 0} → ℕ → List Row → List (Vec Row A) → Type 0
AreParts {A} keys rows parts =
    (length parts ≡ keys) × ((key : ℕ) (part : Vec Row A) → IsAt parts key part → part.items ≡ rows_of_key key rows)

-- each part has the row more, if that is of its key
abbrev pub GetsRow : {A : Type 0} → Row → List (Vec Row A) → List (Vec Row A) → Type 0
GetsRow {A} row old new =
    (length new ≡ length old)
    × ((key : ℕ) (part : Vec Row A) → IsAt new key part
    → (before : Vec Row A) × IsAt old key before × (part.items ≡ before.items ++ of_key key row))
