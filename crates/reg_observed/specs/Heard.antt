-- Events, with words under numbers. To be believed: promises speak of it.
use Rattle.std.specs.Prelude.{ℕ, ◌≡◌, List, ◌++◌, slice_get, Some}
use Rattle.reg_observed.specs.declared.events.Event.{Event}
use Rattle.reg_observed.specs.declared.heard.Vocabulary.{Vocabulary}
use Rattle.reg_observed.specs.Told.{Telling}

-- no word stands twice
abbrev pub AreDistinct : List (List ℕ) → Type 0
AreDistinct words = (i j : ℕ) (word : List ℕ) → slice_get words i ≡ Some word → slice_get words j ≡ Some word → i ≡ j

-- words may come after those before, which keep their numbers
abbrev pub Extends : List (List ℕ) → List (List ℕ) → Type 0
Extends old new = (more : List (List ℕ)) × (new ≡ old ++ more)

pub record Widens (old new : Vocabulary) : Type 0 where
  pub processes : Extends old.processes new.processes
  pub keys : Extends old.keys new.keys
  pub values : Extends old.values new.values

-- The event is what is told on this line, with words under their numbers.
pub record Speaks (v : Vocabulary) (told : ℕ × Telling) (e : Event) : Type 0 where
  pub line : e.line ≡ told.0
  pub process : slice_get v.processes e.process ≡ Some told.1.process
  pub moment : e.moment ≡ told.1.moment
  pub act : e.act ≡ told.1.act
  pub key : slice_get v.keys e.key ≡ Some told.1.key
  pub expected : slice_get v.values e.expected ≡ Some told.1.expected
  pub value : slice_get v.values e.value ≡ Some told.1.value
