-- What is found out of a history. To be believed: promises speak of it.
use Rattle.std.specs.Prelude.{ℕ, ◌≡◌, ◌⊎◌, List, length, max, slice_get, Option, Some, None, Result, Ok, Err, codes}
use Rattle.std.specs.Prelude.{if◌then◌else◌, Vec, ⊤}
use Rattle.std.specs.List.{list_any}
use Rattle.reg_checkers.specs.declared.entries.Entry.{Entry}
use Rattle.reg_checkers.specs.declared.entries.Point.{Point}
use Rattle.reg_checkers.specs.Orders.{IsPointOrder}
use Rattle.reg_judge.specs.Instead.{AreToldOf}
use Rattle.reg_judge.specs.Judging.{HasPointOrder}
use Rattle.reg_judge.specs.Rulings.{AreRuled, RulesSerial}
use Rattle.reg_judge.specs.Standing.{IsStood}
use Rattle.reg_judge.specs.declared.rulings.rows.Row.{Row}
use Rattle.reg_judge.specs.declared.rulings.seats.Naming.TheVariants.{Any, Own}
use Rattle.reg_judge.specs.declared.rulings.serial.Serial.{Serial}
use Rattle.reg_judge.specs.declared.rulings.serial.Serial.TheVariants.{Unjudged}
use Rattle.reg_observed.specs.declared.judging.Verdict.{Verdict}
use Rattle.reg_observed.specs.declared.heard.Heard.{Heard}
use Rattle.reg_observed.specs.declared.events.Event.{Event}
use Rattle.reg_observed.specs.declared.faults.Why.{Why}
use Rattle.reg_observed.specs.JsonLines.{value_said}
use Rattle.reg_observed.specs.Told.{Telling}
use Rattle.reg_observed.specs.Reading.{AreEvents}
use Rattle.reg_observed.specs.Rows.{rows_from, speaks_of}
use Rattle.reg_observed.specs.Turns.{first_wrong, none_running}

-- the number of null where some answer tells of it, or a compare-and-swap expects it, and else that of 0
abbrev pub IsUsualFirst : List (List ℕ) → List Event → ℕ → Type 0
IsUsualFirst values events first =
    (null : ℕ) × (zero_ : ℕ) × (slice_get values null ≡ Some (codes "null"))
    × (slice_get values zero_ ≡ Some (codes "0")) × (first ≡ (if list_any (speaks_of null) events then null else zero_))

-- the number of a word, if there is one
abbrev pub IsNumberOf : List (List ℕ) → Result (List ℕ) Why → ℕ → Type 0
IsNumberOf values (Ok word) number = slice_get values number ≡ Some word
IsNumberOf values (Err why) number = ⊥

-- the number of the first value of registers: of the one that this text says, or else the usual one
abbrev pub IsFirst : Option (List ℕ) → List (List ℕ) → List Event → ℕ → Type 0
IsFirst (Some text) values events first = IsNumberOf values (value_said text) first
IsFirst None values events first = IsUsualFirst values events first

-- how many registers there are for this many keys: at least one
abbrev pub registers_for : ℕ → ℕ
registers_for keys = max keys 1

-- what is found out of a history of the rows under the numbers of their processes, if there is one
abbrev pub IsSerialOf : ℕ → ℕ → List Row → Serial → Type 0
IsSerialOf processes registers rows serial =
    (serial ≡ Unjudged)
    ⊎ ((entries : List Entry) × IsStood Own processes registers rows entries × RulesSerial registers entries serial)

-- a point order, or that there is none
abbrev pub AreSought : {A : Type 0} → ℕ → List Entry → Option (Vec Point A) → Type 0
AreSought registers entries (Some points) = IsPointOrder registers entries points.items
AreSought registers entries None = ¬ HasPointOrder registers entries

-- whether there is a serial order is found out where there is no point order, which would be one
abbrev pub SerialStands : {A : Type 0} → ℕ → ℕ → List Row → Option (Vec Point A) → Option Serial → Type 0
SerialStands processes registers rows (Some points) (Some serial) = ⊥
SerialStands processes registers rows (Some points) None = ⊤
SerialStands processes registers rows None None = ⊥
SerialStands processes registers rows None (Some serial) = IsSerialOf processes registers rows serial

-- What is found out of rows: of the history that they are under any names, of each key by itself, and of the history
-- that they are under the numbers of their processes.
pub record AreJudged {A : Type 0} (processes keys : ℕ) (rows : List Row) (v : Verdict A) : Type 0 where
  pub stands : IsStood Any processes (registers_for keys) rows v.history.entries
  pub registers : v.history.shape.registers ≡ registers_for keys
  pub points : AreSought (registers_for keys) v.history.entries v.points
  pub each : AreRuled processes keys rows v.keys.items
  pub instead : AreToldOf processes rows v.keys.items v.possible.items
  pub serial : SerialStands processes (registers_for keys) rows v.points v.serial

-- the events are of something that is told, with its words
abbrev pub IsHeard : Heard → Type 0
IsHeard heard = (told : List (ℕ × Telling)) × AreEvents heard.words told heard.events.items

-- What is found out of a history that was heard: its processes are in turn, and this of its calls and answers, where
-- the first value of registers is the one that was asked for.
pub record IsJudged {A : Type 0} (asked : Option (List ℕ)) (heard : Heard) (v : Verdict A) : Type 0 where
  pub turns : first_wrong (none_running (length heard.words.processes)) heard.events.items ≡ None
  pub first : IsFirst asked heard.words.values heard.events.items v.first
  pub judged : AreJudged (length heard.words.processes) (length heard.words.keys)
      (rows_from v.first 0 heard.events.items) v
