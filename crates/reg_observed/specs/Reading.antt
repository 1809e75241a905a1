-- What the lines of a text tell. To be believed: promises speak of it.
use Rattle.std.specs.Prelude.{ℕ, ◌≡◌, ◌+◌, List, [], ◌∷◌, ◌++◌, Option, Some, None, Result, Ok, Err}
use Rattle.std.specs.List.{AllZip}
use Rattle.reg_observed.specs.declared.events.Event.{Event}
use Rattle.reg_observed.specs.declared.faults.Why.{Why}
use Rattle.reg_observed.specs.declared.heard.Vocabulary.{Vocabulary}
use Rattle.reg_observed.specs.declared.heard.Heard.{Heard}
use Rattle.reg_observed.specs.Told.{Telling}
use Rattle.reg_observed.specs.Heard.{Speaks, Widens}
use Rattle.reg_observed.specs.JsonLines.{line_says}

-- what is told, each with the number of its line; or the first line that is refused, and why
abbrev pub Tellings : Type 0
Tellings = Result (List (ℕ × Telling)) (ℕ × Why)

-- one more is told first
abbrev pub in_front : ℕ × Telling → Tellings → Tellings
in_front told (Ok others) = Ok (told ∷ others)
in_front told (Err refused) = Err refused

-- what the line of this number tells, and then the others
abbrev pub after_line : ℕ → Result (Option Telling) Why → Tellings → Tellings
after_line number (Err why) others = Err (number, why)
after_line number (Ok None) others = others
after_line number (Ok (Some told)) others = in_front (number, told) others

-- what lines tell, the first of which has this number
unfoldable pub lines_tell : ℕ → List (List ℕ) → Tellings
lines_tell number [] = Ok []
lines_tell number (line ∷ lines) = after_line number (line_says line) (lines_tell (number + 1) lines)

-- these events are what is told, with words under their numbers
abbrev pub AreEvents : Vocabulary → List (ℕ × Telling) → List Event → Type 0
AreEvents v tellings events = AllZip (Speaks v) tellings events

-- One more line was heard: it tells nothing, and nothing changes; or it tells of this call, and its event comes last.
pub data Hears (old new : Heard) (number : ℕ) : Option Telling → Type 0 where
  Nothing : new ≡ old → Hears old new number None
  Call : {told : Telling} (e : Event) → Widens old.words new.words → Speaks new.words (number, told) e
      → new.events.items ≡ old.events.items ++ e ∷ [] → Hears old new number (Some told)
