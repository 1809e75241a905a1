-- The forms of lines, whatever the limits, and why a line is no entry's or no item's. To be believed: a promise speaks
-- of them.
use Rattle.std.specs.Prelude.{ℕ, ◌≡◌, ◌≢◌, ◌≤◌, ◌⊎◌, true, List, ◌++◌, codes, length, ◌∷◌}
use Rattle.std.specs.Fmt.{decimal}
use Rattle.reg_base.specs.Shape.{Extent}
use Rattle.reg_text.specs.Forms.{is_numeral, HasOlderOpForm, IsCasForm, IsOpWhy}
use Rattle.reg_text.specs.declared.faults.Why.{Why}
use Rattle.reg_text.specs.declared.faults.Why.TheVariants.{Range}
use Rattle.reg_history.specs.declared.report_faults.ReadWhy.{ReadWhy}
use Rattle.reg_history.specs.declared.report_faults.ReadWhy.TheVariants.{Form as Misspelt, Range as BeyondLimit}
use Rattle.reg_history.specs.declared.report_faults.ReadWhy.TheVariants.{Place as OutOfPlace}
use Rattle.reg_checkers.specs.declared.entries.Entry.{Entry}
use Rattle.reg_history.specs.declared.versions.Version.{Version}
use Rattle.reg_checkers.specs.History.{IsInPlace}
use Rattle.reg_history.specs.Versions.{compares}
use Rattle.reg_history.specs.EntryLines.{columns_of, entry_text, ColumnsFit, EntryFits}
use Rattle.reg_text.specs.Lines.{AllFit}
use Rattle.reg_history.specs.ReadFaults.{why_of}
use Rattle.reg_history.specs.Counted.{counted_lines}

-- the entry is within the limits, and in place after those before it
abbrev pub Follows : Version → List (List ℕ) → Extent → List Entry → Entry → Type 0
Follows version names shape before e = EntryFits version names e × IsInPlace shape.processes shape.registers before e

-- the form of an operation of this version
abbrev pub HasCallForm : Version → List ℕ → Type 0
HasCallForm version text =
    HasOlderOpForm text
    ⊎ ((compares version ≡ true) × ((name expected digits : List ℕ) × IsCasForm text name expected digits))

-- the form of an answer of this version, whatever its value
abbrev pub HasAnswerForm : Version → List ℕ → Type 0
HasAnswerForm version text =
    (text ≡ codes "done")
    ⊎ (((digits : List ℕ) × ((is_numeral digits ≡ true) × (text ≡ codes "value " ++ digits)))
    ⊎ ((compares version ≡ true) × (text ≡ codes "unequal")))

-- the form of what stands after the columns
abbrev pub HasTailForm : Version → List ℕ → Type 0
HasTailForm version rest =
    ((text : List ℕ) × ((rest ≡ codes "call    " ++ text) × HasCallForm version text))
    ⊎ ((text : List ℕ) × ((rest ≡ codes "answer  " ++ text) × HasAnswerForm version text))

-- a numeral that has room in a column of this number of places
pub record FitsColumn (places : ℕ) (numeral : List ℕ) : Type 0 where
  pub numeral_is : is_numeral numeral ≡ true
  pub short : length numeral ≤ places

-- the line has columns with these numerals, whatever the limits, and then this rest
pub record HasColumns (line at process number rest : List ℕ) : Type 0 where
  pub at_fits : FitsColumn 8 at
  pub process_fits : FitsColumn 3 process
  pub number_fits : FitsColumn 6 number
  pub spelled : line ≡ columns_of at process number rest

-- the numerals are of numbers within the limits
abbrev pub AreWithin : Version → List ℕ → List ℕ → List ℕ → Type 0
AreWithin version at process number =
    (a p n : ℕ) × (at ≡ decimal a) × (process ≡ decimal p) × (number ≡ decimal n) × ColumnsFit version a p n

-- the line has the form of an entry's, whatever the limits and the names
abbrev pub HasEntryForm : Version → List ℕ → Type 0
HasEntryForm version line =
    (at process number rest : List ℕ) × HasColumns line at process number rest × HasTailForm version rest

-- Why what stands after the columns is not read, though it has its form: the value of an answer is beyond its range, or
-- the operation of a call tells.
pub record IsTailWhy (names : List (List ℕ)) (rest : List ℕ) (why : Why) : Type 0 where
  pub answer : (text : List ℕ) → rest ≡ codes "answer  " ++ text → why ≡ Range
  pub call : (text : List ℕ) → rest ≡ codes "call    " ++ text → IsOpWhy names text why

-- why a line is no entry's: its form is not kept, or a number of its columns is beyond its limit, or what stands after
-- them tells
pub record IsEntryWhy (version : Version) (names : List (List ℕ)) (line : List ℕ) (why : ReadWhy) : Type 0 where
  pub form : (¬ (HasEntryForm version line)) → why ≡ Misspelt
  pub beyond : (at process number rest : List ℕ) → HasColumns line at process number rest → HasTailForm version rest
      → ¬ (AreWithin version at process number) → why ≡ BeyondLimit
  pub within : (at process number rest : List ℕ) → HasColumns line at process number rest → HasTailForm version rest
      → AreWithin version at process number → (told : Why) × IsTailWhy names rest told × (why ≡ why_of told)

-- the line is no entry's
pub record IsNoEntry (version : Version) (names : List (List ℕ)) (line : List ℕ) (why : ReadWhy) : Type 0 where
  pub none : (e : Entry) → EntryFits version names e → line ≢ entry_text names e
  pub told : IsEntryWhy version names line why

-- the line is that of an entry which may not come after those before it
pub record IsMisplaced (version : Version) (names : List (List ℕ)) (shape : Extent) (before : List Entry)
    (line : List ℕ) (why : ReadWhy) : Type 0 where
  pub entry : Entry
  pub spelled : line ≡ entry_text names entry
  pub fits : EntryFits version names entry
  pub misplaced : ¬ (IsInPlace shape.processes shape.registers before entry)
  pub told : why ≡ OutOfPlace

-- the line has the form of an operation's, whatever the limits: these numerals in their places
abbrev pub IsIdForm : List ℕ → List ℕ → List ℕ → Type 0
IsIdForm line process number =
    (is_numeral process ≡ true) × (is_numeral number ≡ true)
    × (line ≡ codes "p" ++ (process ++ 32 ∷ (codes "#" ++ number)))

abbrev pub HasIdForm : List ℕ → Type 0
HasIdForm line = (process : List ℕ) × ((number : List ℕ) × IsIdForm line process number)

-- the line has the form of a point's, whatever the limits: these numerals in their places
abbrev pub IsPointForm : List ℕ → List ℕ → List ℕ → List ℕ → Type 0
IsPointForm line process number at = (is_numeral process ≡ true) × (is_numeral number ≡ true) × (is_numeral at ≡ true)
    × (line ≡ codes "p" ++ (process ++ 32 ∷ (codes "#" ++ (number ++ 32 ∷ (codes "at " ++ at)))))

abbrev pub HasPointForm : List ℕ → Type 0
HasPointForm line = (process : List ℕ) × ((number : List ℕ) × ((at : List ℕ) × IsPointForm line process number at))

-- The line is no item's, for this reason: where it has the form of an item's, a number of it is beyond its limit.
pub record IsBadLine {X : Type 0} (line_of : X → List ℕ) (Fits : X → Type 0) (HasForm : List ℕ → Type 0) (line : List ℕ)
    (why : ReadWhy) : Type 0 where
  pub none : (x : X) → Fits x → line ≢ line_of x
  pub range : HasForm line → why ≡ BeyondLimit
  pub form : (¬ HasForm line) → why ≡ Misspelt

-- the lines are those of a count and of as many elements, each fit, no more than the limit, and then the rest
pub record IsCounted {X : Type 0} (mark : List ℕ) (line_of : X → List ℕ) (Fits : List X → X → Type 0) (limit : ℕ)
    (old rest : List (List ℕ)) (xs : List X) : Type 0 where
  pub lines : old ≡ counted_lines mark line_of xs rest
  pub fit : AllFit Fits xs
  pub few : length xs ≤ limit
