-- The parts of lines that are being read. They carry a proof: no promise speaks of them.
use Rattle.std.specs.Prelude.{ℕ, ◌≡◌, ◌+◌, Bool, true, Option, None, Some, List, ◌∷◌, ◌++◌, map, length, ◌^◌, ◌<◌, ⊤}
use Rattle.std.specs.Prelude.{[], ◌⊎◌}
use Rattle.reg_text.specs.Forms.{is_numeral, is_word}
use Rattle.reg_text.specs.Lines.{AllFit, is_kept, Rest, StandsIn, IsAsked}
use Rattle.reg_base.specs.declared.memory.Op.{Op}
use Rattle.reg_base.specs.declared.memory.Op.TheVariants.{Read, Write, Swap, CompareAndSwap}

-- a word and a numeral
abbrev pub IsValuedForm : List ℕ → List ℕ → List ℕ → Type 0
IsValuedForm text name digits = (is_word name ≡ true) × (is_numeral digits ≡ true) × (text ≡ name ++ 32 ∷ digits)

-- a word and two numerals
abbrev pub IsComparedForm : List ℕ → List ℕ → List ℕ → List ℕ → Type 0
IsComparedForm text name expected digits =
    (is_word name ≡ true) × (is_numeral expected ≡ true) × (is_numeral digits ≡ true)
    × (text ≡ name ++ 32 ∷ (expected ++ 32 ∷ digits))

-- the lines `old` are those of n elements, each fit, and then the lines `rest`
pub record IsBlock {X : Type 0} (line_of : X → List ℕ) (Fits : List X → X → Type 0) (n : ℕ) (old rest : List (List ℕ))
    (xs : List X) : Type 0 where
  pub lines : old ≡ map line_of xs ++ rest
  pub fit : AllFit Fits xs
  pub count : length xs ≡ n

-- the operation's values have 64 bits
abbrev pub HasValue : Op → Type 0
HasValue (Read register) = ⊤
HasValue (Write register value) = value < 2 ^ 64
HasValue (Swap register value) = value < 2 ^ 64
HasValue (CompareAndSwap register expected value) = (expected < 2 ^ 64) × (value < 2 ^ 64)

-- nothing, or a text that begins with the mark
abbrev pub Starts : ℕ → List ℕ → Type 0
Starts mark text = (text ≡ []) ⊎ ((rest : List ℕ) × (text ≡ mark ∷ rest))

-- the line was found among the lines `old`, after some that are skipped, and then come the lines `new`; `to` is its
-- number, where `from` is that of the line before them
pub record IsFound (line : List ℕ) (old new : List (List ℕ)) (from to : ℕ) : Type 0 where
  pub skipped : List (List ℕ)
  pub lines : old ≡ skipped ++ line ∷ new
  pub kept : is_kept line ≡ true
  pub number : to ≡ from + length skipped + 1

-- wherever it stood, the cursor stands in the same lines
abbrev pub GoesOn : Rest → Rest → Type 0
GoesOn old new = (skips : Bool) (whole : List (List ℕ)) → StandsIn skips whole old → StandsIn skips whole new

-- the line to come, or none
abbrev pub IsNext : List (List ℕ) → Option (List ℕ) → Type 0
IsNext left None = left ≡ []
IsNext left (Some line) = (rest : List (List ℕ)) × (left ≡ line ∷ rest)

-- These lines were read, and then one more was asked for, which is this one.
pub record IsStopped (before : List (List ℕ)) (next : Option (List ℕ)) (old new : Rest) : Type 0 where
  pub middle : Rest
  pub read : old.left ≡ before ++ middle.left
  pub on : GoesOn old middle
  pub comes : IsNext middle.left next
  pub asked : IsAsked middle new
