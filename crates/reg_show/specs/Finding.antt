-- An order of a report's history, found. To be believed: promises speak of it.
use Rattle.std.specs.Prelude.{ℕ, ◌≡◌, ◌⊎◌, Bool, true, false, List, [], ◌∷◌, ◌++◌, codes, Option, Some, None}
use Rattle.reg_base.specs.declared.memory.OpId.{OpId}
use Rattle.reg_checkers.specs.declared.entries.Entry.{Entry}
use Rattle.reg_checkers.specs.declared.entries.Point.{Point}
use Rattle.reg_checkers.specs.Checks.{ids_of}
use Rattle.reg_checkers.specs.Orders.{IsPointOrder, IsSerial}
use Rattle.reg_commands.specs.Answers.{Blames}
use Rattle.reg_commands.specs.declared.command.Command.TheVariants.{Check}
use Rattle.reg_commands.specs.declared.faults.Fault.TheVariants.{OutOfMemory}
use Rattle.reg_history.specs.Reports.{Contents, SpellsReport, report_text}
use Rattle.reg_outcomes.specs.declared.orders.kinds.OrderKind.{OrderKind}
use Rattle.reg_outcomes.specs.declared.orders.kinds.OrderKind.TheVariants.{Serial, Points}
use Rattle.reg_outcomes.specs.declared.interleavings.outcomes.TheConstants.{MOST_STAGES}
use Rattle.reg_outcomes.specs.Finding.{IsWiderSearch}
use Rattle.reg_show.specs.declared.faults.ShowFault.{ShowFault}
use Rattle.reg_show.specs.declared.faults.ShowFault.TheVariants.{Command, TooManyStages}

-- the report with this order, and these points or none, in place of its own
abbrev pub with_order : Contents → List OpId → Option (List Point) → Contents
with_order r ids points =
    record { front = r.front; shape = r.shape; names = r.names; entries = r.entries; order = ids; points = points }

-- this order, and these points or none, are what was looked for
abbrev pub IsFound : OrderKind → ℕ → List Entry → List OpId → Option (List Point) → Type 0
IsFound Serial registers h ids points = IsSerial registers h ids × (points ≡ None)
IsFound Points registers h ids points =
    (ps : List Point) × IsPointOrder registers h ps × (ids ≡ ids_of ps) × (points ≡ Some ps)

-- the report's history has no such order
abbrev pub HasNone : OrderKind → Contents → Type 0
HasNone Serial r = (ids : List OpId) → ¬ IsSerial r.shape.registers r.entries ids
HasNone Points r = (ps : List Point) → ¬ IsPointOrder r.shape.registers r.entries ps

-- the line that says so, with its line feed
abbrev pub none_text : OrderKind → List ℕ
none_text Serial = codes "no serial order" ++ 10 ∷ []
none_text Points = codes "no point order" ++ 10 ∷ []

-- this is the other report, with an order that was found
pub record IsReordered (kind : OrderKind) (read found : Contents) : Type 0 where
  pub order : List OpId
  pub points : Option (List Point)
  pub is : IsFound kind read.shape.registers read.entries order points
  pub same : found ≡ with_order read order points

-- The text spells a report, and the report was written with an order that was found. `Wrote` says how a text was.
pub record WritesFound (kind : OrderKind) (Wrote : List ℕ → Type 0) (text : List ℕ) : Type 0 where
  pub report : Contents
  pub read : SpellsReport text report
  pub found : Contents
  pub reordered : IsReordered kind report found
  pub written : Wrote (report_text found)

-- The text spells a report whose history has no such order, and that was written.
pub record WritesNone (kind : OrderKind) (Wrote : List ℕ → Type 0) (text : List ℕ) : Type 0 where
  pub report : Contents
  pub read : SpellsReport text report
  pub none : HasNone kind report
  pub written : Wrote (none_text kind)

-- what was written where there is such an order, and where there is none
abbrev pub Finds : OrderKind → Bool → (List ℕ → Type 0) → List ℕ → Type 0
Finds kind true Wrote text = WritesFound kind Wrote text
Finds kind false Wrote text = WritesNone kind Wrote text

-- some number of operations of the report's history, placed one after another, leads to more stages than the most
abbrev pub IsWiderReport : OrderKind → Contents → Type 0
IsWiderReport kind r = IsWiderSearch kind r.shape.processes r.shape.registers r.entries MOST_STAGES

-- why no order of a report's history is found, nor told that there is none
abbrev pub IsUnfound : OrderKind → Contents → ShowFault → Type 0
IsUnfound kind r fault = (fault ≡ Command OutOfMemory) ⊎ ((fault ≡ TooManyStages) × IsWiderReport kind r)

-- what a fault says of the text: of a command, what it says where a report is checked
abbrev pub BlamesFind : OrderKind → ShowFault → List ℕ → Type 0
BlamesFind kind (Command fault) text = Blames Check fault text
BlamesFind kind TooManyStages text = (r : Contents) × SpellsReport text r × IsWiderReport kind r
BlamesFind kind _ text = ⊥
