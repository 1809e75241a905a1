-- What is found out of a history. To be believed: promises speak of it.
use Rattle.std.specs.Prelude.{ℕ, ◌≡◌, List, length, slice_get, Some, Result, Ok, Err, ⊤}
use Rattle.reg_base.specs.declared.memory.OpId.{OpId}
use Rattle.reg_checkers.specs.declared.entries.Entry.{Entry}
use Rattle.reg_checkers.specs.declared.entries.Point.{Point}
use Rattle.reg_checkers.specs.History.{IsAt, event_of}
use Rattle.reg_checkers.specs.Orders.{IsPointOrder, IsSerial}
use Rattle.reg_judge.specs.Judging.{HasPointOrder, IsFirstUnexplained}
use Rattle.reg_judge.specs.declared.rulings.keys.Ruling.{Ruling}
use Rattle.reg_judge.specs.declared.rulings.keys.Ruling.TheVariants.{Linearizable, Not}
use Rattle.reg_judge.specs.declared.rulings.rows.Row.{Row}
use Rattle.reg_judge.specs.declared.rulings.search.Sought.{Sought}
use Rattle.reg_judge.specs.declared.rulings.search.Sought.TheVariants as sought
use Rattle.reg_judge.specs.declared.rulings.seats.Naming.TheVariants.{Any}
use Rattle.reg_judge.specs.declared.rulings.serial.Serial.{Serial}
use Rattle.reg_judge.specs.declared.rulings.serial.Serial.TheVariants.{Yes, No, Unjudged, TooWide}
use Rattle.reg_judge.specs.Keys.{rows_of_key}
use Rattle.reg_judge.specs.Standing.{IsStood}

-- what a search found: points, or the place of an answer
abbrev pub found_in : {A : Type 0} → Sought A → Result (List Point) ℕ
found_in (sought.Points points) = Ok points.items
found_in (sought.None place) = Err place

-- A point order of the entries, or that there is none, and the place of the first answer that none explains: up to it
-- there is none, and up to the entry before there is one.
abbrev pub IsFound : ℕ → List Entry → Result (List Point) ℕ → Type 0
IsFound registers entries (Ok points) = IsPointOrder registers entries points
IsFound registers entries (Err place) = (¬ HasPointOrder registers entries) × IsFirstUnexplained registers entries place

abbrev pub IsSought : {A : Type 0} → ℕ → List Entry → Sought A → Type 0
IsSought registers entries found = IsFound registers entries (found_in found)

-- the answer of this event is the first up to which the entries have no point order
abbrev pub IsUnexplainedAt : ℕ → List Entry → ℕ → Type 0
IsUnexplainedAt registers entries at =
    (place : ℕ) × IsFirstUnexplained registers entries place × ((e : Entry) × IsAt entries place e × (at ≡ event_of e))

-- of entries that have a point order, and of those that have none
abbrev pub RulesEntries : List Entry → Ruling → Type 0
RulesEntries entries Linearizable = HasPointOrder 1 entries
RulesEntries entries (Not at) = (¬ HasPointOrder 1 entries) × IsUnexplainedAt 1 entries at

-- what is found out of the rows of one key, in a history of them under any names
abbrev pub IsRuled : ℕ → List Row → Ruling → Type 0
IsRuled processes rows ruling =
    (entries : List Entry) × IsStood Any processes 1 rows entries × RulesEntries entries ruling

-- of each key, by number
pub record AreRuled (processes keys : ℕ) (rows : List Row) (rulings : List Ruling) : Type 0 where
  pub all : length rulings ≡ keys
  pub each : (key : ℕ) (ruling : Ruling) → slice_get rulings key ≡ Some ruling
      → IsRuled processes (rows_of_key key rows) ruling

-- of entries that have a serial order, and of those that have none
abbrev pub RulesSerial : ℕ → List Entry → Serial → Type 0
RulesSerial registers entries Yes = (ids : List OpId) × IsSerial registers entries ids
RulesSerial registers entries No = (ids : List OpId) → ¬ IsSerial registers entries ids
RulesSerial registers entries Unjudged = ⊤
RulesSerial registers entries TooWide = ⊤
