-- Readers that stop at a line. They carry a proof: no promise speaks of them.
use Rattle.std.specs.Prelude.{ℕ, ◌≡◌, ◌≢◌, ◌+◌, ◌<◌, ◌⊎◌, true, false, List, [], ◌∷◌, ◌++◌, length, codes, Option, Some}
use Rattle.std.specs.Prelude.{if◌then◌else◌}
use Rattle.reg_base.specs.Names.{is_name}
use Rattle.reg_text.specs.Forms.{is_word}
use Rattle.reg_text.specs.Reading.{HasValue, IsBlock, IsNext}
use Rattle.reg_text.specs.Lines.{AllFit, Rest, StandsIn}
use Rattle.reg_checkers.specs.declared.entries.Entry.{Entry}
use Rattle.reg_checkers.specs.declared.entries.Entry.TheVariants.{Called, Answered}
use Rattle.reg_checkers.specs.declared.entries.Point.{Point}
use Rattle.reg_history.specs.EntryLines.{AnswerFits}
use Rattle.reg_history.specs.IdLines.{point_text, PointFits}
use Rattle.reg_history.specs.LineForms.{HasPointForm, IsBadLine}
use Rattle.reg_history.specs.declared.versions.Version.{Version}
use Rattle.reg_history.specs.Refusals.{IsNoEnd, IsWrongItem, IsWrongNext}
use Rattle.reg_history.specs.declared.report_faults.ReadFault.{ReadFault}
use Rattle.reg_history.specs.declared.report_faults.ReadFault.TheVariants.{Line, OutOfMemory}
use Rattle.reg_history.specs.declared.report_faults.ReadWhy.{ReadWhy}
use Rattle.reg_history.specs.declared.report_faults.ReadWhy.TheVariants.{Form as Misspelt, Name as BadName}
use Rattle.reg_history.specs.declared.report_faults.ReadWhy.TheVariants.{End as NoLine}

-- the value of its operation or answer has 64 bits
abbrev pub EntryHasValue : Entry → Type 0
EntryHasValue (Called at id op) = HasValue op
EntryHasValue (Answered at id answer) = AnswerFits answer

-- the line with this number comes after those before it, or the text ends there
pub record IsPlaced (old : Rest) (number : ℕ) (before : List (List ℕ)) (next : Option (List ℕ)) : Type 0 where
  pub middle : List (List ℕ)
  pub read : old.left ≡ before ++ middle
  pub comes : IsNext middle next
  pub number_is : (whole : List (List ℕ)) → StandsIn false whole old → number ≡ old.number + length before + 1

-- no name, though it may be a word
abbrev pub IsNoName : List ℕ → ReadWhy → Type 0
IsNoName line why = (is_name line ≢ true) × (why ≡ (if is_word line then BadName else Misspelt))

-- Fewer lines than the count says are these names, each well spelt, and the next one is none.
pub record IsWrongName (count : ℕ) (old : Rest) (names : List (List ℕ)) (fault : ReadFault) : Type 0 where
  pub number : ℕ
  pub why : ReadWhy
  pub told : fault ≡ Line number why
  pub next : Option (List ℕ)
  pub placed : IsPlaced old number names next
  pub fit : AllFit (λ _ n. is_name n ≡ true) names
  pub fewer : length names < count
  pub wrong : IsWrongNext IsNoName next why

-- the fault is of a line, and it is wrong there
pub record IsStop (IsWrong : List (List ℕ) → Option (List ℕ) → ReadWhy → Type 0) (old : Rest)
    (fault : ReadFault) : Type 0 where
  pub number : ℕ
  pub why : ReadWhy
  pub told : fault ≡ Line number why
  pub before : List (List ℕ)
  pub next : Option (List ℕ)
  pub placed : IsPlaced old number before next
  pub wrong : IsWrong before next why

-- what was read could not be kept, or the reader stopped at the first wrong line
abbrev pub IsFailure : (List (List ℕ) → Option (List ℕ) → ReadWhy → Type 0) → Rest → ReadFault → Type 0
IsFailure IsWrong old fault = (fault ≡ OutOfMemory) ⊎ IsStop IsWrong old fault

-- no line was read before the wrong one
abbrev pub IsFirst : (List ℕ → ReadWhy → Type 0) → List (List ℕ) → Option (List ℕ) → ReadWhy → Type 0
IsFirst IsNone before next why = (before ≡ []) × IsWrongNext IsNone next why

-- a line stands where none may
abbrev pub IsFurther : List (List ℕ) → Option (List ℕ) → ReadWhy → Type 0
IsFurther before next why = (before ≡ []) × (line : List ℕ) × (next ≡ Some line) × (why ≡ NoLine)

-- the last line is missing, or one more stands after it
abbrev pub IsWrongEnd : List (List ℕ) → Option (List ℕ) → ReadWhy → Type 0
IsWrongEnd before next why =
    IsFirst IsNoEnd before next why
    ⊎ ((before ≡ codes "end" ∷ []) × (line : List ℕ) × (next ≡ Some line) × (why ≡ NoLine))

-- one of the given number of points is wrong, or their last line is, or one more stands after it
abbrev pub IsWrongPoints : Version → ℕ → List (List ℕ) → Option (List ℕ) → ReadWhy → Type 0
IsWrongPoints version count before next why =
    IsWrongItem point_text (λ _ p. PointFits version p)
    (λ _. IsBadLine point_text (PointFits version) HasPointForm) count before next why
    ⊎ ((points : List Point) × (last : List (List ℕ))
    × IsBlock point_text (λ _ p. PointFits version p) count before last points × IsWrongEnd last next why)
