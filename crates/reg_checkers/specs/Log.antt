-- What a history holds, and what a push does to it. To be believed: promises speak of it.
use Rattle.std.specs.Prelude.{ℕ, ◌≡◌, ◌+◌, ◌≤◌, List, [], ◌∷◌, ◌++◌}
use Rattle.reg_base.specs.Shape.{Extent}
use Rattle.reg_checkers.specs.declared.entries.Entry.{Entry}
use Rattle.reg_checkers.specs.declared.faults.HistoryFault.{HistoryFault}
use Rattle.reg_checkers.specs.declared.faults.HistoryFault.TheVariants.{OutOfPlace, OutOfMemory}
use Rattle.reg_checkers.specs.History.{IsInPlace, IsHistory}

-- the shape, the entries in order, and for how many more there is room
pub record Log : Type 0 where
  pub shape : Extent
  pub entries : List Entry
  pub room : ℕ

-- each entry of the log is in place after those before it
abbrev pub IsLog : Log → Type 0
IsLog h = IsHistory h.shape.processes h.shape.registers h.entries

-- the entry may come next
abbrev pub IsNextOf : Log → Entry → Type 0
IsNextOf h e = IsInPlace h.shape.processes h.shape.registers h.entries e

-- the entry was in place, and stands at the end
pub record Grows (old new : Log) (e : Entry) : Type 0 where
  pub in_place : IsNextOf old e
  pub shape : new.shape ≡ old.shape
  pub entries : new.entries ≡ old.entries ++ e ∷ []
  pub room : old.room ≤ new.room + 1

-- why an entry is refused: memory is refused only to one that was in place, where no room was left
abbrev pub Refuses : Log → Entry → HistoryFault → Type 0
Refuses h e OutOfPlace = ¬ IsNextOf h e
Refuses h e OutOfMemory = IsNextOf h e × (h.room ≡ 0)
