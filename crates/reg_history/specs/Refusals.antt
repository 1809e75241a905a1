-- Which line of a text that is no report's is told, and why. To be believed: a promise speaks of it.
use Rattle.std.specs.Prelude.{ℕ, ◌≡◌, ◌≢◌, ◌<◌, ◌≤◌, ◌⊎◌, true, false, List, [], ◌∷◌, ◌++◌, length, map, codes, Option}
use Rattle.std.specs.Prelude.{None, Some, slice_get, if◌then◌else◌}
use Rattle.std.specs.Fmt.{decimal}
use Rattle.reg_base.specs.Names.{is_name, names_fault}
use Rattle.reg_base.specs.Shape.{Extent}
use Rattle.reg_text.specs.Forms.{is_numeral, is_word}
use Rattle.reg_text.specs.Lines.{AllFit, IsNumbered, lines_of}
use Rattle.reg_text.specs.Words.{names_text, AreWords, HasWords, IsNamesWhy}
use Rattle.reg_text.specs.declared.faults.Why.{Why}
use Rattle.reg_checkers.specs.declared.entries.Entry.{Entry}
use Rattle.reg_checkers.specs.declared.entries.Point.{Point}
use Rattle.reg_base.specs.declared.memory.OpId.{OpId}
use Rattle.reg_history.specs.EntryLines.{entry_text}
use Rattle.reg_history.specs.IdLines.{id_text, IdFits, point_text, PointFits}
use Rattle.reg_history.specs.LineForms.{Follows, HasIdForm, HasPointForm, IsBadLine, IsCounted, IsMisplaced, IsNoEntry}
use Rattle.reg_history.specs.ReadFaults.{why_of}
use Rattle.reg_history.specs.Counted.{counted_lines}
use Rattle.reg_history.specs.Reports.{head_lines, is_front, PointsFit, tail_lines}
use Rattle.reg_history.specs.Versions.{most_processes, most_registers, version_line}
use Rattle.reg_history.specs.declared.report_faults.ReadWhy.{ReadWhy}
use Rattle.reg_history.specs.declared.report_faults.ReadWhy.TheVariants.{Form, Range, Name, End}
use Rattle.reg_history.specs.declared.report_limits.TheConstants.{MOST_ENTRIES, MOST_IDS}
use Rattle.reg_history.specs.declared.versions.Version.{Version}
use Rattle.reg_history.specs.declared.versions.Version.TheVariants.{One, Two, Three}

-- the text ends before this line, or the line may not stand there, for this reason
abbrev pub IsWrongNext : (List ℕ → ReadWhy → Type 0) → Option (List ℕ) → ReadWhy → Type 0
IsWrongNext IsNone None why = why ≡ End
IsWrongNext IsNone (Some line) why = IsNone line why

-- the line names no version
abbrev pub IsNoVersion : List ℕ → ReadWhy → Type 0
IsNoVersion line why = ((version : Version) → line ≢ version_line version) × (why ≡ Form)

-- the line names no front end
abbrev pub IsNoFront : List ℕ → ReadWhy → Type 0
IsNoFront line why = ((word : List ℕ) → line ≡ codes "front " ++ word → is_front word ≡ false) × (why ≡ Form)

-- the line is not the mark with a number from the least to the limit: a number beyond them is Range, and what is no
-- number is Form
pub record IsNoCount (mark : List ℕ) (least limit : ℕ) (line : List ℕ) (why : ReadWhy) : Type 0 where
  pub none : (n : ℕ) → least ≤ n → n ≤ limit → line ≢ mark ++ decimal n
  pub range : (digits : List ℕ) → is_numeral digits ≡ true → line ≡ mark ++ digits → why ≡ Range
  pub form : ((digits : List ℕ) → line ≡ mark ++ digits → is_numeral digits ≡ false) → why ≡ Form

-- the line of all names of version 1 has no words, or words that are no names or too many
pub record IsNoNames (line : List ℕ) (why : ReadWhy) : Type 0 where
  pub none : (names : List (List ℕ)) → names_fault names ≡ None → length names ≤ most_registers One
      → line ≢ codes "registers" ++ names_text names
  pub words : (ws : List (List ℕ)) → AreWords ws → line ≡ codes "registers" ++ names_text ws
      → (told : Why) × IsNamesWhy (most_registers One) ws told × (why ≡ why_of told)
  pub form : ((text : List ℕ) → HasWords text → ¬ (line ≡ codes "registers" ++ text)) → why ≡ Form

abbrev pub IsAmong : List ℕ → List (List ℕ) → Type 0
IsAmong name names = (k : ℕ) × (slice_get names k ≡ Some name)

-- the name is well spelt, and doesn't stand earlier
abbrev pub IsNewName : List (List ℕ) → List ℕ → Type 0
IsNewName before name = (is_name name ≡ true) × (¬ IsAmong name before)

-- the name is misspelt, and Form where it is no word; or it stands earlier too
abbrev pub IsNoNewName : List (List ℕ) → List ℕ → ReadWhy → Type 0
IsNoNewName before line why =
    ((is_name line ≢ true) × (why ≡ (if is_word line then Name else Form)))
    ⊎ ((is_name line ≡ true) × IsAmong line before × (why ≡ Name))

-- the line is no entry's, or that of one which may not come after those before it
abbrev pub IsNoNextEntry : Version → List (List ℕ) → Extent → List Entry → List ℕ → ReadWhy → Type 0
IsNoNextEntry version names shape before line why =
    IsNoEntry version names line why ⊎ IsMisplaced version names shape before line why

-- the line is neither `end` nor the count of points
abbrev pub IsNoTail : List ℕ → ReadWhy → Type 0
IsNoTail line why = (line ≢ codes "end") × IsNoCount (codes "points ") 0 MOST_IDS line why

abbrev pub IsNoEnd : List ℕ → ReadWhy → Type 0
IsNoEnd line why = (line ≢ codes "end") × (why ≡ Form)

-- The lines are of fewer elements than the count says, each fit after those before it, and the next one may not follow
-- them.
pub record IsWrongItem {X : Type 0} (line_of : X → List ℕ) (Fits : List X → X → Type 0)
    (IsNone : List X → List ℕ → ReadWhy → Type 0) (count : ℕ) (lines : List (List ℕ)) (next : Option (List ℕ))
    (why : ReadWhy) : Type 0 where
  pub items : List X
  pub are : lines ≡ map line_of items
  pub fit : AllFit Fits items
  pub fewer : length items < count
  pub wrong : IsWrongNext (IsNone items) next why

-- The next line is no count; or the lines are a count and fewer elements than it says, and the next one may not follow
-- them.
abbrev pub IsWrongCounted : {X : Type 0} → List ℕ → ℕ → ℕ → (X → List ℕ) → (List X → X → Type 0)
    → (List X → List ℕ → ReadWhy → Type 0) → List (List ℕ) → Option (List ℕ) → ReadWhy → Type 0
IsWrongCounted mark least limit line_of Fits IsNone [] next why = IsWrongNext (IsNoCount mark least limit) next why
IsWrongCounted mark least limit line_of Fits IsNone (line ∷ lines) next why =
    (count : ℕ) × (least ≤ count) × (count ≤ limit) × (line ≡ mark ++ decimal count)
    × IsWrongItem line_of Fits IsNone count lines next why

-- the names: all on one line, or their count and a line for each
abbrev pub IsWrongNames : Version → List (List ℕ) → Option (List ℕ) → ReadWhy → Type 0
IsWrongNames One lines next why = (lines ≡ []) × IsWrongNext IsNoNames next why
IsWrongNames Two lines next why =
    IsWrongCounted (codes "registers ") 1 (most_registers Two) (λ name. name) IsNewName IsNoNewName lines next why
IsWrongNames Three lines next why =
    IsWrongCounted (codes "registers ") 1 (most_registers Three) (λ name. name) IsNewName IsNoNewName lines next why

abbrev pub IsFrontLine : List ℕ → Type 0
IsFrontLine line = (word : List ℕ) × (is_front word ≡ true) × (line ≡ codes "front " ++ word)

abbrev pub IsProcessesLine : Version → List ℕ → Type 0
IsProcessesLine version line =
    (n : ℕ) × (1 ≤ n) × (n ≤ most_processes version) × (line ≡ codes "processes " ++ decimal n)

-- The lines are the first ones of a report's head, and the next one may not follow them: the version, the front end,
-- the processes, and then the names.
abbrev pub IsWrongHead : List (List ℕ) → Option (List ℕ) → ReadWhy → Type 0
IsWrongHead [] next why = IsWrongNext IsNoVersion next why
IsWrongHead (a ∷ []) next why = (version : Version) × (a ≡ version_line version) × IsWrongNext IsNoFront next why
IsWrongHead (a ∷ b ∷ []) next why =
    (version : Version) × (a ≡ version_line version) × IsFrontLine b
    × IsWrongNext (IsNoCount (codes "processes ") 1 (most_processes version)) next why
IsWrongHead (a ∷ b ∷ c ∷ lines) next why =
    (version : Version) × (a ≡ version_line version) × IsFrontLine b × IsProcessesLine version c
    × IsWrongNames version lines next why

-- The lines after the order: the next is neither `end` nor a count of points; or one of the points is wrong; or their
-- last line is missing; or one more line stands after the last.
abbrev pub IsWrongTail : Version → List (List ℕ) → Option (List ℕ) → ReadWhy → Type 0
IsWrongTail version lines next why =
    ((lines ≡ []) × IsWrongNext IsNoTail next why)
    ⊎ (((count : ℕ) × (count ≤ MOST_IDS) × (points : List (List ℕ))
    × (lines ≡ (codes "points " ++ decimal count) ∷ points)
    × IsWrongItem point_text (λ _ p. PointFits version p)
    (λ _. IsBadLine point_text (PointFits version) HasPointForm) count points next why)
    ⊎ (((points : List Point) × PointsFit version (Some points)
    × (lines ≡ counted_lines (codes "points ") point_text points []) × IsWrongNext IsNoEnd next why)
    ⊎ ((points : Option (List Point)) × PointsFit version points × (lines ≡ tail_lines points) × (line : List ℕ)
    × (next ≡ Some line) × (why ≡ End))))

-- the lines after the history: the order, and what stands after a whole one
abbrev pub IsWrongLists : Version → List (List ℕ) → Option (List ℕ) → ReadWhy → Type 0
IsWrongLists version lines next why =
    IsWrongCounted (codes "order ") 0 MOST_IDS id_text (λ _ id. IdFits version id)
    (λ _. IsBadLine id_text (IdFits version) HasIdForm) lines next why
    ⊎ ((order : List OpId) × (tail : List (List ℕ))
    × IsCounted (codes "order ") id_text (λ _ id. IdFits version id) MOST_IDS lines tail order
    × IsWrongTail version tail next why)

-- the lines after the head: the history, and what stands after a whole one
abbrev pub IsWrongBody : Version → List (List ℕ) → Extent → List (List ℕ) → Option (List ℕ) → ReadWhy → Type 0
IsWrongBody version names shape lines next why =
    IsWrongCounted (codes "history ") 0 MOST_ENTRIES (entry_text names) (Follows version names shape)
    (IsNoNextEntry version names shape) lines next why
    ⊎ ((entries : List Entry) × (lists : List (List ℕ))
    × IsCounted (codes "history ") (entry_text names) (Follows version names shape) MOST_ENTRIES lines lists entries
    × IsWrongLists version lists next why)

-- the lines are a whole head and lines after it, and the next one may not follow them
pub record IsWrongBehind (lines : List (List ℕ)) (next : Option (List ℕ)) (why : ReadWhy) : Type 0 where
  pub version : Version
  pub front : List ℕ
  pub front_is : is_front front ≡ true
  pub processes : ℕ
  pub some : 1 ≤ processes
  pub few : processes ≤ most_processes version
  pub names : List (List ℕ)
  pub spelt : names_fault names ≡ None
  pub few_names : length names ≤ most_registers version
  pub body : List (List ℕ)
  pub are : lines ≡ head_lines version front processes names body
  pub wrong : IsWrongBody version names (record { processes = processes; registers = length names }) body next why

-- The lines are the first ones of a report, as far as each can be judged by those before it, and the next one may not
-- follow them, for this reason; or the text ends before it.
abbrev pub IsFirstWrong : List (List ℕ) → Option (List ℕ) → ReadWhy → Type 0
IsFirstWrong before next why = IsWrongHead before next why ⊎ IsWrongBehind before next why

-- Of the lines of a text, the one with this number is the first with which no report goes on.
pub record RefusesReportLine (number : ℕ) (why : ReadWhy) (text : List ℕ) : Type 0 where
  pub before : List (List ℕ)
  pub next : Option (List ℕ)
  pub numbered : IsNumbered false (lines_of text) number before next
  pub first : IsFirstWrong before next why
