-- What words of EDN are in JSON. To be believed: promises speak of it.
use Rattle.std.specs.Prelude.{ℕ, ◌+◌, ◌-◌, ◌/◌, ◌%◌, ◌==◌, ◌&&◌, ◌||◌, Bool, not, List, [], ◌∷◌, ◌++◌, codes, drop}
use Rattle.std.specs.Prelude.{length, nat_eq, nat_le, nat_lt, if◌then◌else◌}
use Rattle.std.specs.List.{list_all, starts_with}
use Rattle.std.specs.Str.{bytes_eq}

abbrev pub is_digit : ℕ → Bool
is_digit b = nat_le 48 b && nat_le b 57

-- digits, with no 0 before another
abbrev pub is_natural : List ℕ → Bool
is_natural word =
    not (length word == 0) &&
    ((length word == 1 || not (starts_with nat_eq word (codes "0"))) && list_all is_digit word)

abbrev pub without_minus : List ℕ → List ℕ
without_minus word = if starts_with nat_eq word (codes "-") then drop 1 word else word

-- an integer as JSON has it
abbrev pub is_integer : List ℕ → Bool
is_integer word = is_natural (without_minus word)

-- a text between quotes
abbrev pub json_text : List ℕ → List ℕ
json_text text = 34 ∷ (text ++ 34 ∷ [])

-- A word in JSON: a keyword is the string of its name, nil is null, and an integer is itself. All others are no values
-- of a history, and become false.
abbrev pub json_word : List ℕ → List ℕ
json_word word =
    if starts_with nat_eq word (codes ":") then json_text (drop 1 word) else
    if bytes_eq word (codes "nil") then codes "null" else
    if is_integer word then word else codes "false"

abbrev pub hex_digit : ℕ → ℕ
hex_digit n = if nat_lt n 10 then 48 + n else 97 + (n - 10)

-- a string with one more control character, which JSON has as \u00 and two digits
abbrev pub json_byte : List ℕ → ℕ → List ℕ
json_byte text b = ((text ++ 92 ∷ 117 ∷ 48 ∷ 48 ∷ []) ++ hex_digit (b / 16) ∷ []) ++ hex_digit (b % 16) ∷ []
