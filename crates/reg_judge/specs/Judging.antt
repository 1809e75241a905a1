-- What a judge answers: a point order, or the first answer up to which there is none. To be believed: promises speak of
-- it.
use Rattle.std.specs.Prelude.{ℕ, ◌+◌, ◌<◌, ◌≤◌, List, length, take}
use Rattle.reg_checkers.specs.declared.entries.Entry.{Entry}
use Rattle.reg_checkers.specs.declared.entries.Entry.TheVariants.{Answered}
use Rattle.reg_checkers.specs.declared.entries.Point.{Point}
use Rattle.reg_checkers.specs.History.{IsAt}
use Rattle.reg_checkers.specs.Orders.{IsPointOrder}
use Rattle.reg_base.specs.declared.memory.Answer.{Answer}
use Rattle.reg_base.specs.declared.memory.OpId.{OpId}
use Rattle.reg_judge.specs.declared.judge.Bounds.{Bounds}
use Rattle.reg_judge.specs.declared.judge.Decided.{Decided}
use Rattle.reg_judge.specs.declared.judge.Decided.TheVariants.{NoOrder, Order}
use Rattle.reg_judge.specs.declared.judge.PointsFault.{PointsFault}
use Rattle.reg_judge.specs.declared.judge.PointsFault.TheVariants.{No, OutOfMemory, TooManyStages, Unchecked}

-- the history has a point order
abbrev pub HasPointOrder : ℕ → List Entry → Type 0
HasPointOrder registers h = (ps : List Point) × IsPointOrder registers h ps

-- the entry at this place is an answer, the entries up to it have no point order, and those before it have one
pub record IsFirstUnexplained (registers : ℕ) (h : List Entry) (place : ℕ) : Type 0 where
  pub answer : (at : ℕ) × (id : OpId) × (answer : Answer) × IsAt h place (Answered at id answer)
  pub none : ¬ HasPointOrder registers (take (place + 1) h)
  pub before : HasPointOrder registers (take place h)

-- why no point order is given: there is none, and none from this place on; or nothing is said
abbrev pub IsPointsFault : ℕ → List Entry → PointsFault → Type 0
IsPointsFault registers h (No place) = (¬ HasPointOrder registers h) × IsFirstUnexplained registers h place
IsPointsFault registers h (TooManyStages place) = Unit {0}
IsPointsFault registers h Unchecked = Unit {0}
IsPointsFault registers h OutOfMemory = Unit {0}

-- whether there is a point order, and which
abbrev pub IsDecided : {A : Type 0} → ℕ → List Entry → Decided A → Type 0
IsDecided registers h (Order points) = IsPointOrder registers h points.items
IsDecided registers h (NoOrder stuck) = (stuck.place < length h) × (¬ HasPointOrder registers h)

-- so many first entries, and not all, have a point order
abbrev pub IsExplained : ℕ → List Entry → ℕ → Type 0
IsExplained registers h count = (count < length h) × HasPointOrder registers (take count h)

-- so many first entries have a point order, and so many more have none
pub record AreBounds (registers : ℕ) (h : List Entry) (b : Bounds) : Type 0 where
  pub order : HasPointOrder registers (take b.good h)
  pub none : ¬ HasPointOrder registers (take b.bad h)
  pub apart : b.good < b.bad
  pub inside : b.bad ≤ length h
