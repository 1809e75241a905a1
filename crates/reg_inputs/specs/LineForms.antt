-- The forms of the lines of a schedule, whatever their numbers and names, and why a line is refused. To be believed: a
-- promise speaks of them.
use Rattle.std.specs.Prelude.{ℕ, ◌≡◌, ◌≤◌, ◌⊎◌, ◌==◌, ◌&&◌, Bool, true, not, List, ◌∷◌, ◌++◌, length, codes}
use Rattle.std.specs.Fmt.{decimal}
use Rattle.std.specs.List.{list_all}
use Rattle.reg_text.specs.Words.{is_front_letter}
use Rattle.reg_text.specs.Forms.{is_numeral, HasOpForm, IsOpWhy}
use Rattle.reg_text.specs.declared.faults.Why.{Why}
use Rattle.reg_text.specs.declared.faults.Why.TheVariants.{Form, Range}

-- letters and hyphens, one or more
abbrev pub is_front_form : List ℕ → Bool
is_front_form word = not (length word == 0) && list_all is_front_letter word

-- `call`, a numeral and the form of an operation
abbrev pub IsCallForm : List ℕ → List ℕ → List ℕ → Type 0
IsCallForm line process text =
    (is_numeral process ≡ true) × HasOpForm text × (line ≡ codes "call " ++ (process ++ 32 ∷ text))

-- `take` and three numerals
abbrev pub IsTakeForm : List ℕ → List ℕ → List ℕ → List ℕ → Type 0
IsTakeForm line from to number = (is_numeral from ≡ true) × (is_numeral to ≡ true) × (is_numeral number ≡ true)
    × (line ≡ codes "take " ++ (from ++ 32 ∷ (to ++ 32 ∷ number)))

-- `tick` and a numeral
abbrev pub IsTickForm : List ℕ → List ℕ → Type 0
IsTickForm line process = (is_numeral process ≡ true) × (line ≡ codes "tick " ++ process)

-- the form of a call, of a take or of a tick
abbrev pub HasEventForm : List ℕ → Type 0
HasEventForm line =
    ((process text : List ℕ) × IsCallForm line process text)
    ⊎ (((from to number : List ℕ) × IsTakeForm line from to number) ⊎ ((process : List ℕ) × IsTickForm line process))

-- Why a line that has the form of an event's is none: a process, or the number of a frame, is beyond its range; and of
-- a call whose process is within it, the operation tells.
pub record IsEventWhy (names : List (List ℕ)) (line : List ℕ) (why : Why) : Type 0 where
  pub formed : HasEventForm line
  pub call : (process : ℕ) (text : List ℕ) → process ≤ 255 → IsCallForm line (decimal process) text
      → IsOpWhy names text why
  pub beyond : (process text : List ℕ) → ((p : ℕ) → p ≤ 255 → ¬ (process ≡ decimal p)) → IsCallForm line process text
      → why ≡ Range
  pub take : (from to number : List ℕ) → IsTakeForm line from to number → why ≡ Range
  pub tick : (process : List ℕ) → IsTickForm line process → why ≡ Range

-- why a line is no event's: its form is not kept, or its numbers and names tell
pub record IsLineWhy (names : List (List ℕ)) (line : List ℕ) (why : Why) : Type 0 where
  pub form : (¬ HasEventForm line) → why ≡ Form
  pub within : HasEventForm line → IsEventWhy names line why

-- why a line is refused after the last event that a schedule may have: its form is judged before its place
pub record IsFurtherWhy (line : List ℕ) (why : Why) : Type 0 where
  pub form : (¬ HasEventForm line) → why ≡ Form
  pub further : HasEventForm line → why ≡ Range
