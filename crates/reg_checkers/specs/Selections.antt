-- Ids that are a selection of a history's operations, with their facts. They carry a proof: no promise speaks of them.
use Rattle.std.specs.Prelude.{List}
use Rattle.reg_base.specs.declared.memory.OpId.{OpId}
use Rattle.reg_checkers.specs.declared.entries.Entry.{Entry}
use Rattle.reg_checkers.specs.declared.facts.Fact.{Fact}
use Rattle.reg_checkers.specs.Facts.{AreFacts}
use Rattle.reg_checkers.specs.Orders.{IsSelection}
use Rattle.reg_checkers.specs.declared.faults.CheckFault.{CheckFault}
use Rattle.reg_checkers.specs.declared.faults.CheckFault.TheVariants.{Unknown, Twice, Missing, OwnOrder, Answer}
use Rattle.reg_checkers.specs.declared.faults.CheckFault.TheVariants.{Outside, Falling, OutOfMemory}
use Rattle.reg_checkers.specs.Checks.{HasUnknown, HasTwice, HasMissing}

-- the ids are a selection, and these are their facts
pub record IsSelected (h : List Entry) (ids : List OpId) (facts : List Fact) : Type 0 where
  pub selection : IsSelection h ids
  pub facts_of : AreFacts h ids facts

-- a fault of a selection: it is there, and none that `CheckFault` has before it is. `OutOfMemory` says nothing
abbrev pub IsSelectionFault : List Entry → List OpId → CheckFault → Type 0
IsSelectionFault h ids Unknown = HasUnknown h ids
IsSelectionFault h ids Twice = (¬ HasUnknown h ids) × HasTwice ids
IsSelectionFault h ids Missing = (¬ HasUnknown h ids) × (¬ HasTwice ids) × HasMissing h ids
IsSelectionFault h ids OwnOrder = ⊥
IsSelectionFault h ids (Answer place) = ⊥
IsSelectionFault h ids (Outside place) = ⊥
IsSelectionFault h ids (Falling place) = ⊥
IsSelectionFault h ids OutOfMemory = Unit {0}
