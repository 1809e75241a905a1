-- What stands behind the first word of a line, word by word. It carries a proof: no promise speaks of it.
use Rattle.std.specs.Prelude.{ℕ, ◌≡◌, ◌≢◌, ◌+◌, ◌⊎◌, ⊤, List, [], ◌∷◌, ◌++◌, length, codes, Option, None, Some}
use Rattle.std.specs.Prelude.{slice_get}
use Rattle.reg_text.specs.declared.faults.Why.{Why}
use Rattle.reg_text.specs.declared.faults.Why.TheVariants.{Range, Name}
use Rattle.reg_inputs.specs.declared.misfits.Rule.{Rule}
use Rattle.reg_inputs.specs.declared.misfits.Rule.TheVariants.{Limits}
use Rattle.reg_inputs.specs.declared.misfits.Wanted.{Wanted}
use Rattle.reg_inputs.specs.declared.misfits.Wanted.TheVariants.{Process, Frame, Value, Register, End}
use Rattle.reg_inputs.specs.declared.misfits.Misfit.{Misfit}
use Rattle.reg_text.specs.Reading.{Starts}
use Rattle.reg_text.specs.Words.{names_text}
use Rattle.reg_inputs.specs.Misfits.{IsWanted, IsNumber, AreApart, first_of}

-- what stands behind the word of an operation
abbrev pub TakesArguments : List ℕ → List Wanted → Type 0
TakesArguments word arguments =
    ((word ≡ codes "read") × (arguments ≡ Register ∷ []))
    ⊎ ((((word ≡ codes "write") ⊎ (word ≡ codes "swap")) × (arguments ≡ Register ∷ Value ∷ []))
    ⊎ ((word ≡ codes "cas") × (arguments ≡ Register ∷ Value ∷ Value ∷ [])))

-- each word is what is wanted in its place, and there are no more
abbrev pub FitAll : Rule → List (List ℕ) → List Wanted → List (List ℕ) → Type 0
FitAll rule names [] words = words ≡ []
FitAll rule names (wanted ∷ more) [] = ⊥
FitAll rule names (wanted ∷ more) (word ∷ words) = IsWanted rule names wanted (Some word) × FitAll rule names more words

-- there may be a word in each place
abbrev pub IsPlain : List Wanted → Type 0
IsPlain [] = ⊤
IsPlain (wanted ∷ more) = (wanted ≢ End) × IsPlain more

-- what is wanted next, where these are to come
abbrev pub next_of : List Wanted → Wanted
next_of [] = End
next_of (wanted ∷ more) = wanted

-- the words before that of the misfit are what is wanted there, and that one isn't; so many words stand before them
pub record IsStop (skipped : ℕ) (by : Rule) (names : List (List ℕ)) (all : List Wanted) (line : List (List ℕ))
    (misfit : Misfit) : Type 0 where
  pub done : List Wanted
  pub left : List Wanted
  pub before : List (List ℕ)
  pub after : List (List ℕ)
  pub arguments : all ≡ done ++ left
  pub words : line ≡ before ++ after
  pub fit : FitAll by names done before
  pub number : skipped + length before ≡ misfit.word
  pub wanted : misfit.wanted ≡ next_of left
  pub rule : misfit.rule ≡ by
  pub wrong : ¬ IsWanted by names (next_of left) (first_of after)

-- all words are what is wanted, or the first is told that isn't
abbrev pub Stops : ℕ → Rule → List (List ℕ) → List Wanted → List (List ℕ) → Option Misfit → Type 0
Stops skipped rule names arguments words None = FitAll rule names arguments words
Stops skipped rule names arguments words (Some misfit) = IsStop skipped rule names arguments words misfit

-- the text begins with words that are what is wanted, and behind them the rest stands
pub record Reached (rule : Rule) (names : List (List ℕ)) (done : List Wanted) (whole rest : List ℕ) : Type 0 where
  pub before : List (List ℕ)
  pub text : whole ≡ names_text before ++ rest
  pub apart : AreApart before
  pub fit : FitAll rule names done before
  pub starts : Starts 32 rest

-- the words of an operation
abbrev pub AreOpWords : Rule → List (List ℕ) → List (List ℕ) → Type 0
AreOpWords rule names [] = ⊥
AreOpWords rule names (word ∷ words) =
    (arguments : List Wanted) × TakesArguments word arguments × FitAll rule names arguments words

-- the words of a call behind the first
abbrev pub AreCallWords : Rule → List (List ℕ) → List (List ℕ) → Type 0
AreCallWords rule names [] = ⊥
AreCallWords rule names (process ∷ words) = IsWanted rule names Process (Some process) × AreOpWords rule names words

-- what stands behind `take`, and behind `tick`
abbrev pub take_arguments : List Wanted
take_arguments = Process ∷ Process ∷ Frame ∷ []

abbrev pub tick_arguments : List Wanted
tick_arguments = Process ∷ []

-- the words of an event's line
abbrev pub AreEventWords : Rule → List (List ℕ) → List (List ℕ) → Type 0
AreEventWords rule names [] = ⊥
AreEventWords rule names (word ∷ words) =
    ((word ≡ codes "call") × AreCallWords rule names words)
    ⊎ (((word ≡ codes "take") × FitAll rule names take_arguments words)
    ⊎ ((word ≡ codes "tick") × FitAll rule names tick_arguments words))

-- such words go on so, or end
abbrev pub Follows : (List (List ℕ) → Type 0) → List (List ℕ) → Option (List ℕ) → Type 0
Follows Are before None = Are before
Follows Are before (Some word) = (after : List (List ℕ)) × Are (before ++ word ∷ after)

-- the word at this place is the first with which no such words go on, and what is wanted there goes on
pub record IsWordMisfit (Are : List (List ℕ) → Type 0) (IsWantedThere : Option (List ℕ) → Type 0) (line : List (List ℕ))
    (place : ℕ) : Type 0 where
  pub before : List (List ℕ)
  pub after : List (List ℕ)
  pub words : line ≡ before ++ after
  pub number : length before ≡ place
  pub begun : (next : Option (List ℕ)) × IsWantedThere next
  pub only : (next : Option (List ℕ)) → Follows Are before next → IsWantedThere next
  pub all : (next : Option (List ℕ)) → IsWantedThere next → Follows Are before next
  pub wrong : ¬ IsWantedThere (first_of after)

-- these are such words, or the first is told that isn't, with so many before them
abbrev pub TellsWords : (List (List ℕ) → Type 0) → ℕ → Rule → List (List ℕ) → List (List ℕ) → Option Misfit → Type 0
TellsWords Are skipped rule names words None = Are words
TellsWords Are skipped rule names words (Some misfit) =
    (place : ℕ) × (skipped + place ≡ misfit.word) × (misfit.rule ≡ rule)
    × IsWordMisfit Are (IsWanted rule names misfit.wanted) words place

-- Why words that have the form of these arguments aren't such: a number is beyond its range, or a name is that of no
-- register.
abbrev pub IsArgumentsWhy : List (List ℕ) → List Wanted → List (List ℕ) → Why → Type 0
IsArgumentsWhy names (Register ∷ []) words why = why ≡ Name
IsArgumentsWhy names (Register ∷ wanted ∷ more) [] why = ⊤
IsArgumentsWhy names (Register ∷ wanted ∷ more) (name ∷ words) why =
    ((i : ℕ) → slice_get names i ≡ Some name → why ≡ Range)
    × (((i : ℕ) → ¬ (slice_get names i ≡ Some name)) → why ≡ Name)
IsArgumentsWhy names _ words why = why ≡ Range

-- why words that have the form of an operation are none
abbrev pub IsOpWordsWhy : List (List ℕ) → List (List ℕ) → Why → Type 0
IsOpWordsWhy names words why =
    (word : List ℕ) (more : List (List ℕ)) (arguments : List Wanted) → words ≡ word ∷ more
    → TakesArguments word arguments → IsArgumentsWhy names arguments more why

-- why words that have the form of a call behind its first are none
abbrev pub IsCallWordsWhy : List (List ℕ) → List (List ℕ) → Why → Type 0
IsCallWordsWhy names words why = (process : List ℕ) (more : List (List ℕ)) → words ≡ process ∷ more
    → (IsNumber Limits 255 process → IsOpWordsWhy names more why) × ((¬ IsNumber Limits 255 process) → why ≡ Range)

-- why words that have the form of an event's line are none
abbrev pub IsEventWordsWhy : List (List ℕ) → List (List ℕ) → Why → Type 0
IsEventWordsWhy names words why = (word : List ℕ) (more : List (List ℕ)) → words ≡ word ∷ more
    → (word ≡ codes "call" → IsCallWordsWhy names more why) × (word ≡ codes "take" → why ≡ Range)
    × (word ≡ codes "tick" → why ≡ Range)
