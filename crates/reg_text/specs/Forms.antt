-- Forms of words, of numerals and of operations, whatever the limits and the names.
use Rattle.std.specs.Prelude.{ℕ, ◌≡◌, ◌==◌, ◌&&◌, Bool, true, false, not, List, [], ◌∷◌, ◌++◌, ◌⊎◌, length, codes, Some}
use Rattle.std.specs.Prelude.{slice_get, if◌then◌else◌}
use Rattle.std.specs.Char.{is_ascii, is_ascii_digit}
use Rattle.std.specs.List.{list_all}
use Rattle.reg_text.specs.declared.faults.Why.{Why}
use Rattle.reg_text.specs.declared.faults.Why.TheVariants.{Range, Name}

-- `0`, or digits that do not begin with 0
abbrev pub is_numeral : List ℕ → Bool
is_numeral [] = false
is_numeral (b ∷ bytes) = if b == 48 then length bytes == 0 else list_all is_ascii_digit (b ∷ bytes)

-- an ASCII byte other than a space
abbrev pub is_word_byte : ℕ → Bool
is_word_byte b = is_ascii b && not (b == 32)

-- one or more ASCII bytes, none of them a space
abbrev pub is_word : List ℕ → Bool
is_word bytes = not (length bytes == 0) && list_all is_word_byte bytes

-- `read` and a word
abbrev pub IsReadForm : List ℕ → List ℕ → Type 0
IsReadForm text name = (is_word name ≡ true) × (text ≡ codes "read " ++ name)

-- `write`, a word and a numeral
abbrev pub IsWriteForm : List ℕ → List ℕ → List ℕ → Type 0
IsWriteForm text name digits =
    (is_word name ≡ true) × (is_numeral digits ≡ true) × (text ≡ codes "write " ++ (name ++ 32 ∷ digits))

-- `swap`, a word and a numeral
abbrev pub IsSwapForm : List ℕ → List ℕ → List ℕ → Type 0
IsSwapForm text name digits =
    (is_word name ≡ true) × (is_numeral digits ≡ true) × (text ≡ codes "swap " ++ (name ++ 32 ∷ digits))

-- `cas`, a word and two numerals
abbrev pub IsCasForm : List ℕ → List ℕ → List ℕ → List ℕ → Type 0
IsCasForm text name expected digits =
    (is_word name ≡ true) × (is_numeral expected ≡ true) × (is_numeral digits ≡ true)
    × (text ≡ codes "cas " ++ (name ++ 32 ∷ (expected ++ 32 ∷ digits)))

-- the form of a read, of a write or of a swap
abbrev pub HasOlderOpForm : List ℕ → Type 0
HasOlderOpForm text =
    ((name : List ℕ) × IsReadForm text name)
    ⊎ (((name : List ℕ) × ((digits : List ℕ) × IsWriteForm text name digits))
    ⊎ ((name : List ℕ) × ((digits : List ℕ) × IsSwapForm text name digits)))

-- the form of an operation: of one of these three, or of a compare-and-swap
abbrev pub HasOpForm : List ℕ → Type 0
HasOpForm text = HasOlderOpForm text ⊎ ((name expected digits : List ℕ) × IsCasForm text name expected digits)

-- a write or a swap
abbrev pub IsUpdateForm : List ℕ → List ℕ → List ℕ → Type 0
IsUpdateForm text name digits = IsWriteForm text name digits ⊎ IsSwapForm text name digits

-- Why a text that has the form of an operation is none: an update, or a compare-and-swap, of a register with a name has
-- a value beyond its range; what another operation names is no register's name.
pub record IsOpWhy (names : List (List ℕ)) (text : List ℕ) (why : Why) : Type 0 where
  pub read : (name : List ℕ) → IsReadForm text name → why ≡ Name
  pub known : (name digits : List ℕ) (i : ℕ) → IsUpdateForm text name digits → slice_get names i ≡ Some name
      → why ≡ Range
  pub unknown : (name digits : List ℕ) → IsUpdateForm text name digits → ((i : ℕ) → ¬ (slice_get names i ≡ Some name))
      → why ≡ Name
  pub known_cas : (name expected digits : List ℕ) (i : ℕ) → IsCasForm text name expected digits
      → slice_get names i ≡ Some name → why ≡ Range
  pub unknown_cas : (name expected digits : List ℕ) → IsCasForm text name expected digits
      → ((i : ℕ) → ¬ (slice_get names i ≡ Some name)) → why ≡ Name
