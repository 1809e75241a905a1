-- The names of registers, and why a list of words can't be names.
use Rattle.std.specs.Prelude.{ℕ, ◌++◌, Bool, ◌&&◌, nat_lt, nat_le, nat_eq, not, List, [], ◌∷◌, length, map, Option}
use Rattle.std.specs.Prelude.{Some, None, String, string_bytes, if◌then◌else◌}
use Rattle.std.specs.List.{list_all, list_any, position_from}
use Rattle.std.specs.Char.{is_ascii_lowercase}
use Rattle.std.specs.Str.{bytes_eq}
use Rattle.reg_base.specs.declared.limits.TheConstants.{MOST_REGISTERS, LONGEST_NAME}
use Rattle.reg_base.specs.declared.naming.NamesFault.{NamesFault}
use Rattle.reg_base.specs.declared.naming.NamesFault.TheVariants.{NoName, TooManyNames, BadName, SameName}

abbrev pub texts : {A : Type 0} → List (String A) → List (List ℕ)
texts names = map string_bytes names

-- one letter or more, not too many, and all from a to z
abbrev pub is_name : List ℕ → Bool
is_name name = nat_lt 0 (length name) && (nat_le (length name) LONGEST_NAME && list_all is_ascii_lowercase name)

-- the place of the first misspelt name
abbrev pub first_bad : List (List ℕ) → Option ℕ
first_bad names = position_from (λ name. not (is_name name)) 0 names

-- the place of the first of the names to come that stands earlier too
abbrev pub repeat_after : List (List ℕ) → List (List ℕ) → Option ℕ
repeat_after earlier [] = None
repeat_after earlier (name ∷ names) =
    if list_any (bytes_eq name) earlier then Some (length earlier) else repeat_after (earlier ++ name ∷ []) names

abbrev pub first_repeat : List (List ℕ) → Option ℕ
first_repeat names = repeat_after [] names

-- the first misspelt name, or else the first that stands earlier too
abbrev pub worst_place : Option ℕ → Option ℕ → Option NamesFault
worst_place (Some i) repeated = Some (BadName i)
worst_place None (Some i) = Some (SameName i)
worst_place None None = None

-- the first fault, if there is one
abbrev pub names_fault : List (List ℕ) → Option NamesFault
names_fault names =
    if nat_eq (length names) 0 then Some NoName else
    if nat_lt MOST_REGISTERS (length names) then Some TooManyNames else
    worst_place (first_bad names) (first_repeat names)
