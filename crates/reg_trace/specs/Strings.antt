-- Strings of JSON that hold any text.
use Rattle.std.specs.Prelude.{ℕ, Bool, ◌&&◌, ◌==◌, not, nat_le, List, [], ◌∷◌, ◌++◌, flat_map, if◌then◌else◌}
use Rattle.std.specs.Char.Escape.{encode_utf16, hex_digit_at}
use Rattle.std.specs.Str.{chars}

-- a printable character of ASCII that is none of ", \, <, > and &
abbrev pub is_bare : ℕ → Bool
is_bare u =
    nat_le 32 u &&
    (nat_le u 126 && (not (u == 34) && (not (u == 92) && (not (u == 60) && (not (u == 62) && not (u == 38))))))

-- \u and four digits, of a unit of UTF-16
abbrev pub escape_of : ℕ → List ℕ
escape_of u = 92 ∷ 117 ∷ hex_digit_at 0x1000 u ∷ hex_digit_at 0x100 u ∷ hex_digit_at 0x10 u ∷ hex_digit_at 1 u ∷ []

-- a unit, as it is or escaped
abbrev pub unit_text : ℕ → List ℕ
unit_text u = if is_bare u then u ∷ [] else escape_of u

-- a character: its one or two units of UTF-16
abbrev pub char_text : ℕ → List ℕ
char_text c = flat_map unit_text (encode_utf16 c)

-- a string that holds this text: its characters in quotes
abbrev pub string_text : List ℕ → List ℕ
string_text text = 34 ∷ (flat_map char_text (chars text) ++ 34 ∷ [])
