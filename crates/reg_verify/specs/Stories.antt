-- Reports of chapters in a row. A cluster that doesn't end is told as one run after another: each begins with a memory
-- of zeros, and process 0 writes first what the one before it ended with. Promises cite it.
use Rattle.std.specs.Prelude.{ℕ, ◌≡◌, ◌≢◌, ◌+◌, ◌<◌, ◌==◌, ◌⊎◌, Bool, true, false, List, length, Some}
use Rattle.reg_base.specs.declared.memory.Op.{Op}
use Rattle.reg_base.specs.declared.memory.OpId.{OpId}
use Rattle.reg_base.specs.Memory.{memory}
use Rattle.reg_checkers.specs.Checks.{AreCalled}
use Rattle.reg_checkers.specs.History.{IsAt, IsCalled}
use Rattle.reg_history.specs.Reports.{Contents, IsReport}
use Rattle.reg_commands.specs.declared.verdicts.Reason.{Reason}
use Rattle.reg_commands.specs.declared.verdicts.Verdict.TheVariants.{Yes, No}
use Rattle.reg_commands.specs.declared.verdicts.Verdicts.{Verdicts}
use Rattle.reg_commands.specs.Verdicts.{Judges, all_yes}
use Rattle.reg_node.specs.Openings.{opening_of}
use Rattle.reg_verify.specs.declared.stories.breaches.Breach.{Breach}
use Rattle.reg_verify.specs.declared.stories.breaches.Breach.TheVariants.{Order, Points, Other, Write, Place}
use Rattle.reg_verify.specs.declared.stories.breaches.ChapterPart.{ChapterPart}
use Rattle.reg_verify.specs.declared.stories.breaches.ChapterPart.TheVariants.{Front, Processes, Registers}
use Rattle.reg_verify.specs.declared.stories.breaches.Ruling.{Ruling}
use Rattle.reg_verify.specs.declared.stories.breaches.Ruling.TheVariants.{Story, Broken}

-- One report

-- The command `check` accepts the report: all its verdicts are yes.
pub record Passes (r : Contents) : Type 0 where
  pub good : IsReport r
  pub verdicts : Verdicts
  pub judged : Judges r verdicts
  pub yes : all_yes verdicts ≡ true

-- The registers have these values after all operations of the report's order, over a memory of zeros.
pub record EndsWith (r : Contents) (values : List ℕ) : Type 0 where
  pub ops : List Op
  pub called : AreCalled r.entries r.order ops
  pub values_are : values ≡ memory r.shape.registers ops

-- the id of process 0 with this number
abbrev pub opener : ℕ → OpId
opener number = record { process = 0; number = number }

-- the operation was called under this id
abbrev pub IsWrittenBy : Contents → OpId → Op → Type 0
IsWrittenBy r id op = (at : ℕ) × IsCalled r.entries id at op

-- these writes are the first operations of process 0, and the first ones of the order
abbrev pub Opens : List Op → Contents → Type 0
Opens writes r =
    (number : ℕ) (op : Op) → IsAt writes number op
    → IsWrittenBy r (opener number) op × IsAt r.order number (opener number)

-- The chapter ended while it was opened: each operation that was called is the write of process 0 with its number, and
-- the order is that of the first operations of process 0.
pub record BeginsToOpen (writes : List Op) (r : Contents) : Type 0 where
  pub all : (id : OpId) (at : ℕ) (op : Op) → IsCalled r.entries id at op → (id.process ≡ 0) × IsAt writes id.number op
  pub order : (place : ℕ) (id : OpId) → IsAt r.order place id → id ≡ opener place

-- the chapter is opened; the last one of a story may have begun to be, and have nothing else
abbrev pub IsOpened : Bool → List Op → Contents → Type 0
IsOpened false writes r = Opens writes r
IsOpened true writes r = Opens writes r ⊎ BeginsToOpen writes r

-- A report behind another one

-- they are of one front end, as many processes, and registers of the same names
pub record AreAlike (a b : Contents) : Type 0 where
  pub front : b.front ≡ a.front
  pub processes : b.shape.processes ≡ a.shape.processes
  pub names : b.names ≡ a.names

-- The second one goes on where the first one ended: process 0 writes first the values that it ended with.
pub record Follows (last : Bool) (a b : Contents) : Type 0 where
  pub alike : AreAlike a b
  pub values : List ℕ
  pub ends : EndsWith a values
  pub opened : IsOpened last (opening_of values) b

-- no report stands behind this place
abbrev pub is_last : List Contents → ℕ → Bool
is_last reports place = place + 1 == length reports

-- The reports are one story: there is one at least, `check` accepts each, and each goes on where the one before it
-- ended.
pub record AreStory (reports : List Contents) : Type 0 where
  pub some : 0 < length reports
  pub accepted : (k : ℕ) (r : Contents) → IsAt reports k r → Passes r
  pub follows : (k : ℕ) (a b : Contents) → IsAt reports k a → IsAt reports (k + 1) b
      → Follows (is_last reports (k + 1)) a b

-- What is wrong where they are none

-- `check` doesn't accept it, for this reason: that of its order, or of its points where its order has none
pub record IsRefused (r : Contents) (breach : Breach) : Type 0 where
  pub good : IsReport r
  pub verdicts : Verdicts
  pub judged : Judges r verdicts
  pub says : ((reason : Reason) × (breach ≡ Order reason) × (verdicts.serial ≡ No reason))
      ⊎ ((reason : Reason) × (breach ≡ Points reason) × (verdicts.serial ≡ Yes) × (verdicts.points ≡ Some (No reason)))
  pub never : ¬ Passes r

-- they differ in this part, and in none before it
abbrev pub DiffersFirst : Contents → Contents → ChapterPart → Type 0
DiffersFirst a b Front = b.front ≢ a.front
DiffersFirst a b Processes = (b.front ≡ a.front) × (b.shape.processes ≢ a.shape.processes)
DiffersFirst a b Registers = (b.front ≡ a.front) × (b.shape.processes ≡ a.shape.processes) × (b.names ≢ a.names)

-- the first writes, as many as this number, are the first operations of process 0, and the first ones of the order
abbrev pub OpensUpTo : ℕ → List Op → Contents → Type 0
OpensUpTo count writes r =
    (number : ℕ) (op : Op) → number < count → IsAt writes number op
    → IsWrittenBy r (opener number) op × IsAt r.order number (opener number)

-- The write with this number is the first one that process 0 didn't make as its operation of that number, or that isn't
-- at its place of the order.
abbrev pub IsUnopened : List Op → Contents → Breach → Type 0
IsUnopened writes r (Order reason) = ⊥
IsUnopened writes r (Points reason) = ⊥
IsUnopened writes r (Other part) = ⊥
IsUnopened writes r (Write number op) =
    OpensUpTo number writes r × IsAt writes number op × (¬ IsWrittenBy r (opener number) op)
IsUnopened writes r (Place number) =
    OpensUpTo number writes r × ((op : Op) × IsAt writes number op × IsWrittenBy r (opener number) op)
    × (¬ IsAt r.order number (opener number))

-- they are alike, and the second one isn't opened with what the first one ended with
pub record IsUnopenedBehind (a b : Contents) (breach : Breach) : Type 0 where
  pub alike : AreAlike a b
  pub values : List ℕ
  pub ends : EndsWith a values
  pub first : IsUnopened (opening_of values) b breach

-- The second one doesn't go on where the first one ended: they differ in a part, or it isn't opened.
pub record IsBreachBehind (last : Bool) (a b : Contents) (breach : Breach) : Type 0 where
  pub says : ((part : ChapterPart) × (breach ≡ Other part) × DiffersFirst a b part) ⊎ IsUnopenedBehind a b breach
  pub never : ¬ Follows last a b

-- the report at this place is accepted, and goes on where the one before it ended
pub record GoesOn (reports : List Contents) (place : ℕ) : Type 0 where
  pub report : Contents
  pub at : IsAt reports place report
  pub accepted : Passes report
  pub follows : (k : ℕ) (a : Contents) → place ≡ k + 1 → IsAt reports k a → Follows (is_last reports place) a report

-- the report at this place isn't accepted, or is and doesn't go on where the one before it ended
pub record IsBreach (reports : List Contents) (place : ℕ) (breach : Breach) : Type 0 where
  pub report : Contents
  pub at : IsAt reports place report
  pub wrong : IsRefused report breach
      ⊎ (Passes report
      × ((k : ℕ) × (a : Contents) × (place ≡ k + 1) × IsAt reports k a
      × IsBreachBehind (is_last reports place) a report breach))

-- The reports before this one go on, and this one has the breach. So they are no story.
pub record AreBroken (reports : List Contents) (chapter : ℕ) (breach : Breach) : Type 0 where
  pub before : (k : ℕ) → k < chapter → GoesOn reports k
  pub here : IsBreach reports chapter breach
  pub never : ¬ AreStory reports

-- they are one story of so many chapters, or the report of this number is the first with which they go wrong
abbrev pub IsRuling : List Contents → Ruling → Type 0
IsRuling reports (Story chapters) = AreStory reports × (chapters ≡ length reports)
IsRuling reports (Broken chapter breach) = AreBroken reports chapter breach
