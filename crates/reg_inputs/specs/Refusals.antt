-- Which line of a text that is no schedule's is told, and why. To be believed: a promise speaks of it.
use Rattle.std.specs.Prelude.{ℕ, ◌≡◌, ◌<◌, true, false, List, [], ◌∷◌, ◌++◌, length, codes, Option, None, Some}
use Rattle.reg_base.specs.declared.limits.TheConstants.{MOST_REGISTERS, MOST_EVENTS}
use Rattle.reg_text.specs.Forms.{is_numeral}
use Rattle.reg_text.specs.Lines.{lines_of, IsNumbered}
use Rattle.reg_text.specs.Words.{names_text, AreWords, HasWords, IsNamesWhy}
use Rattle.reg_text.specs.declared.faults.Why.{Why}
use Rattle.reg_text.specs.declared.faults.Why.TheVariants.{Form, Range, Name, End}
use Rattle.reg_inputs.specs.LineForms.{is_front_form, IsLineWhy, IsFurtherWhy}
use Rattle.reg_inputs.specs.Schedules.{Plan, IsPlan, plan_lines}

-- some schedule begins with these lines
abbrev pub IsBegun : List (List ℕ) → Type 0
IsBegun lines = (p : Plan) × IsPlan p × (rest : List (List ℕ)) × (plan_lines p ≡ lines ++ rest)

-- why a first line is refused: it has no number, or one beyond its range
pub record IsProcessesWhy (line : List ℕ) (why : Why) : Type 0 where
  pub range : (digits : List ℕ) → is_numeral digits ≡ true → line ≡ codes "processes " ++ digits → why ≡ Range
  pub form : ((digits : List ℕ) → line ≡ codes "processes " ++ digits → is_numeral digits ≡ false) → why ≡ Form

-- why a second line is refused: it has no words, or they are no names or too many
pub record IsRegistersWhy (line : List ℕ) (why : Why) : Type 0 where
  pub words : (ws : List (List ℕ)) → AreWords ws → line ≡ codes "registers" ++ names_text ws
      → IsNamesWhy MOST_REGISTERS ws why
  pub form : ((text : List ℕ) → HasWords text → ¬ (line ≡ codes "registers" ++ text)) → why ≡ Form

-- why a third line is refused: it has no word, or one that names no front end
pub record IsFrontWhy (line : List ℕ) (why : Why) : Type 0 where
  pub name : (word : List ℕ) → is_front_form word ≡ true → line ≡ codes "front " ++ word → why ≡ Name
  pub form : ((word : List ℕ) → line ≡ codes "front " ++ word → is_front_form word ≡ false) → why ≡ Form

-- why the line after those of a schedule is refused: it is no event's, or there may be no more events
pub record IsEventsWhy (lines : List (List ℕ)) (line : List ℕ) (why : Why) : Type 0 where
  pub plan : Plan
  pub good : IsPlan plan
  pub read : plan_lines plan ≡ lines
  pub none : length plan.events < MOST_EVENTS → IsLineWhy plan.names line why
  pub further : length plan.events ≡ MOST_EVENTS → IsFurtherWhy line why

-- why a line is refused, by the lines before it
abbrev pub IsReason : List (List ℕ) → List ℕ → Why → Type 0
IsReason [] line why = IsProcessesWhy line why
IsReason (a ∷ []) line why = IsRegistersWhy line why
IsReason (a ∷ b ∷ []) line why = IsFrontWhy line why
IsReason (a ∷ b ∷ c ∷ rest) line why = IsEventsWhy (a ∷ b ∷ c ∷ rest) line why

-- the text ends before its third line, or no schedule has this line there
abbrev pub IsWrongNext : List (List ℕ) → Option (List ℕ) → Why → Type 0
IsWrongNext before None why = (length before < 3) × (why ≡ End)
IsWrongNext before (Some line) why = (¬ IsBegun (before ++ line ∷ [])) × IsReason before line why

-- some schedule begins with these lines, and with the next one none does
pub record IsFirstWrong (before : List (List ℕ)) (next : Option (List ℕ)) (why : Why) : Type 0 where
  pub begun : IsBegun before
  pub wrong : IsWrongNext before next why

-- Of the lines of a text that are neither empty nor begin with #, the one with this number is the first with which no
-- schedule goes on.
pub record RefusesLine (number : ℕ) (why : Why) (text : List ℕ) : Type 0 where
  pub before : List (List ℕ)
  pub next : Option (List ℕ)
  pub numbered : IsNumbered true (lines_of text) number before next
  pub first : IsFirstWrong before next why
