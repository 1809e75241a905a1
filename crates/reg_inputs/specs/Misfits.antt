-- How far the words of a line go on as those of an event's line, or of an operation. To be believed: promises speak of
-- it.
use Rattle.std.specs.Prelude.{ℕ, ◌≡◌, ◌≤◌, ◌-◌, ◌^◌, ◌⊎◌, ◌↔◌, ⊤, true, List, [], ◌∷◌, ◌++◌, length, codes, Option}
use Rattle.std.specs.Prelude.{None, Some, slice_get}
use Rattle.std.specs.Fmt.{decimal}
use Rattle.reg_base.specs.declared.memory.Op.{Op}
use Rattle.reg_process.specs.declared.events.Event.{Event}
use Rattle.reg_text.specs.Forms.{is_numeral, is_word, HasOpForm}
use Rattle.reg_text.specs.Ops.{op_text, OpFits}
use Rattle.reg_text.specs.Parts.{Lacks}
use Rattle.reg_text.specs.Words.{names_text}
use Rattle.reg_text.specs.declared.faults.Why.{Why}
use Rattle.reg_text.specs.declared.faults.Why.TheVariants.{Form as BadForm, Range, Name}
use Rattle.reg_inputs.specs.Schedules.{event_text, EventFits}
use Rattle.reg_inputs.specs.LineForms.{HasEventForm}
use Rattle.reg_inputs.specs.declared.misfits.Rule.{Rule}
use Rattle.reg_inputs.specs.declared.misfits.Rule.TheVariants.{Form, Limits}
use Rattle.reg_inputs.specs.declared.misfits.Wanted.{Wanted}
use Rattle.reg_inputs.specs.declared.misfits.Wanted.TheVariants.{Event as AnyEvent, Operation, Process, Frame, Value}
use Rattle.reg_inputs.specs.declared.misfits.Wanted.TheVariants.{Register, End}
use Rattle.reg_inputs.specs.declared.misfits.Misfit.{Misfit}

-- a numeral, and within the limits one up to this number
abbrev pub IsNumber : Rule → ℕ → List ℕ → Type 0
IsNumber Form most word = is_numeral word ≡ true
IsNumber Limits most word = (n : ℕ) × (n ≤ most) × (word ≡ decimal n)

-- a word, and within the limits one that is the name of a register
abbrev pub IsRegister : Rule → List (List ℕ) → List ℕ → Type 0
IsRegister Form names word = is_word word ≡ true
IsRegister Limits names word = (i : ℕ) × (slice_get names i ≡ Some word)

-- the first word of an event's line
abbrev pub IsEventWord : List ℕ → Type 0
IsEventWord word = (word ≡ codes "call") ⊎ ((word ≡ codes "take") ⊎ (word ≡ codes "tick"))

-- the first word of an operation
abbrev pub IsOperationWord : List ℕ → Type 0
IsOperationWord word = (word ≡ codes "read") ⊎ ((word ≡ codes "write") ⊎ ((word ≡ codes "swap") ⊎ (word ≡ codes "cas")))

-- the word, or the end of the line, may stand where this is wanted
abbrev pub IsWanted : Rule → List (List ℕ) → Wanted → Option (List ℕ) → Type 0
IsWanted rule names AnyEvent (Some word) = IsEventWord word
IsWanted rule names Operation (Some word) = IsOperationWord word
IsWanted rule names Process (Some word) = IsNumber rule 255 word
IsWanted rule names Frame (Some word) = IsNumber rule 4294967295 word
IsWanted rule names Value (Some word) = IsNumber rule (2 ^ 64 - 1) word
IsWanted rule names Register (Some word) = IsRegister rule names word
IsWanted rule names End (Some word) = ⊥
IsWanted rule names End None = ⊤
IsWanted rule names _ None = ⊥

-- none of the words has a space
abbrev pub AreApart : List (List ℕ) → Type 0
AreApart [] = ⊤
AreApart (word ∷ words) = Lacks 32 word × AreApart words

-- what stands before, between and behind the spaces of a text
pub record AreWordsOf (text : List ℕ) (words : List (List ℕ)) : Type 0 where
  pub joined : 32 ∷ text ≡ names_text words
  pub apart : AreApart words

-- some text of this kind begins with these words, and the next one is this, or it ends behind them
abbrev pub GoesOn : (List ℕ → Type 0) → List (List ℕ) → Option (List ℕ) → Type 0
GoesOn Is before None = (text : List ℕ) × Is text × AreWordsOf text before
GoesOn Is before (Some word) =
    (text : List ℕ) × (after : List (List ℕ)) × Is text × AreWordsOf text (before ++ word ∷ after)

-- the first of the words, if there is one
abbrev pub first_of : List (List ℕ) → Option (List ℕ)
first_of [] = None
first_of (word ∷ words) = Some word

-- The word at this place, from 0, is the first with which no text of this kind goes on; or the text ends in its place,
-- and none does. After the words before it, just what is wanted goes on.
pub record IsMisfit (Is : List ℕ → Type 0) (IsWantedThere : Option (List ℕ) → Type 0) (text : List ℕ)
    (place : ℕ) : Type 0 where
  pub before : List (List ℕ)
  pub after : List (List ℕ)
  pub words : AreWordsOf text (before ++ after)
  pub number : length before ≡ place
  pub begun : (next : Option (List ℕ)) × GoesOn Is before next
  pub exact : (next : Option (List ℕ)) → GoesOn Is before next ↔ IsWantedThere next
  pub wrong : ¬ IsWantedThere (first_of after)

-- the form of an operation, and within the limits one
abbrev pub IsOpBy : List (List ℕ) → Rule → List ℕ → Type 0
IsOpBy names Form text = HasOpForm text
IsOpBy names Limits text = (op : Op) × OpFits names op × (text ≡ op_text names op)

-- the form of an event's line, and within the limits one
abbrev pub IsEventBy : List (List ℕ) → Rule → List ℕ → Type 0
IsEventBy names Form line = HasEventForm line
IsEventBy names Limits line = (event : Event) × EventFits names event × (line ≡ event_text names event)

-- The first word is told with which no text of this kind goes on: by its form, or where it has that, by the limits.
pub record TellsMisfit (Is : Rule → List ℕ → Type 0) (names : List (List ℕ)) (text : List ℕ)
    (misfit : Misfit) : Type 0 where
  pub first : IsMisfit (Is misfit.rule) (IsWanted misfit.rule names misfit.wanted) text misfit.word
  pub formed : misfit.rule ≡ Limits → Is Form text

-- why a line is refused with a word that isn't what is wanted in its place
abbrev pub why_of : Rule → Wanted → Why
why_of Form wanted = BadForm
why_of Limits Process = Range
why_of Limits Frame = Range
why_of Limits Value = Range
why_of Limits _ = Name
