-- Which line of a text that is no record's is told, and why. To be believed: a promise speaks of it.
use Rattle.std.specs.Prelude.{ℕ, ◌≡◌, ◌<◌, false, List, [], ◌∷◌, ◌++◌, length, Option, None, Some}
use Rattle.reg_text.specs.Lines.{lines_of, IsNumbered}
use Rattle.reg_text.specs.declared.faults.Why.{Why}
use Rattle.reg_text.specs.declared.faults.Why.TheVariants.{Form, Range, End}
use Rattle.reg_inputs.specs.Refusals.{IsFrontWhy, IsProcessesWhy, IsRegistersWhy}
use Rattle.reg_node.specs.declared.transcripts.recorded.Recorded.{Recorded}
use Rattle.reg_node.specs.RecordLines.{Account, IsAccount, RecordedFits, account_lines, recorded_text}

-- some record begins with these lines
abbrev pub IsBegun : List (List ℕ) → Type 0
IsBegun lines = (a : Account) × IsAccount a × (rest : List (List ℕ)) × (account_lines a ≡ lines ++ rest)

-- the line is that of a step
abbrev pub IsStepLine : List (List ℕ) → List ℕ → Type 0
IsStepLine names line = (r : Recorded) × RecordedFits names r × (line ≡ recorded_text names r)

-- why the line after those of a record is refused: it is no step's, or there may be no more steps
pub record IsStepsWhy (lines : List (List ℕ)) (line : List ℕ) (why : Why) : Type 0 where
  pub account : Account
  pub good : IsAccount account
  pub read : account_lines account ≡ lines
  pub form : (¬ IsStepLine account.names line) → why ≡ Form
  pub further : IsStepLine account.names line → why ≡ Range

-- why a line is refused, by the lines before it
abbrev pub IsReason : List (List ℕ) → List ℕ → Why → Type 0
IsReason [] line why = why ≡ Form
IsReason (a ∷ []) line why = IsFrontWhy line why
IsReason (a ∷ b ∷ []) line why = IsProcessesWhy line why
IsReason (a ∷ b ∷ c ∷ []) line why = IsRegistersWhy line why
IsReason (a ∷ b ∷ c ∷ d ∷ rest) line why = IsStepsWhy (a ∷ b ∷ c ∷ d ∷ rest) line why

-- the text ends before its fourth line, or no record has this line there
abbrev pub IsWrongNext : List (List ℕ) → Option (List ℕ) → Why → Type 0
IsWrongNext before None why = (length before < 4) × (why ≡ End)
IsWrongNext before (Some line) why = (¬ IsBegun (before ++ line ∷ [])) × IsReason before line why

-- some record begins with these lines, and with the next one none does
pub record IsFirstWrong (before : List (List ℕ)) (next : Option (List ℕ)) (why : Why) : Type 0 where
  pub begun : IsBegun before
  pub wrong : IsWrongNext before next why

-- Of the lines of a text, the one with this number is the first with which no record goes on.
pub record RefusesAccount (number : ℕ) (why : Why) (text : List ℕ) : Type 0 where
  pub before : List (List ℕ)
  pub next : Option (List ℕ)
  pub numbered : IsNumbered false (lines_of text) number before next
  pub first : IsFirstWrong before next why
