-- Words of a line.
use Rattle.std.specs.Prelude.{ℕ, ◌≡◌, ◌==◌, ◌<◌, ◌||◌, Bool, true, None, List, ◌∷◌, flat_map, length, take}
use Rattle.std.specs.Char.{is_ascii_lowercase}
use Rattle.std.specs.List.{list_all}
use Rattle.reg_base.specs.Names.{names_fault}
use Rattle.reg_text.specs.declared.faults.Why.{Why}
use Rattle.reg_text.specs.declared.faults.Why.TheVariants.{Form, Range, Name, End}
use Rattle.reg_text.specs.Forms.{is_word}

-- each name after a space
abbrev pub names_text : List (List ℕ) → List ℕ
names_text names = flat_map (λ name. 32 ∷ name) names

-- a letter from a to z, or a hyphen
abbrev pub is_front_letter : ℕ → Bool
is_front_letter b = is_ascii_lowercase b || (b == 45)

-- one word or more, however they are spelt
abbrev pub AreWords : List (List ℕ) → Type 0
AreWords ws = (0 < length ws) × (list_all is_word ws ≡ true)

-- one word or more, however they are spelt, each after a space
abbrev pub HasWords : List ℕ → Type 0
HasWords text = (ws : List (List ℕ)) × (AreWords ws × (text ≡ names_text ws))

-- Why a line with these words is refused, where it may have at most the given number of names. Range: there are more
-- words, and those up to that number are names that differ. Name: those words are not names that differ.
abbrev pub IsNamesWhy : ℕ → List (List ℕ) → Why → Type 0
IsNamesWhy limit ws Range = (limit < length ws) × (names_fault (take limit ws) ≡ None)
IsNamesWhy limit ws Name = ¬ (names_fault (take limit ws) ≡ None)
IsNamesWhy limit ws Form = ⊥
IsNamesWhy limit ws End = ⊥
