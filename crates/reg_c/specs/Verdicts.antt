-- What is told of a history that a caller lends: the verdicts of the checkers.
use Rattle.std.specs.Prelude.{ℕ, ◌≡◌, List, map, take, slice_get, Err, MatchOption}
use Rattle.reg_base.specs.Shape.{shape_of}
use Rattle.reg_base.specs.declared.shapes.ShapeFault.{ShapeFault}
use Rattle.reg_checkers.specs.declared.entries.Entry.{Entry}
use Rattle.reg_checkers.specs.declared.faults.CheckFault.{CheckFault}
use Rattle.reg_checkers.specs.declared.faults.CheckFault.TheVariants.{Unknown, Twice, Missing, OwnOrder, Answer}
use Rattle.reg_checkers.specs.declared.faults.CheckFault.TheVariants.{Outside, Falling}
use Rattle.reg_checkers.specs.declared.faults.CheckFault.TheVariants.{OutOfMemory as NoMemory}
use Rattle.reg_checkers.specs.History.{IsAt, IsHistory, IsInPlace}
use Rattle.reg_checkers.specs.Orders.{IsSerial, IsPointOrder}
use Rattle.reg_checkers.specs.Checks.{IsSerialFault, IsPointFault}
use Rattle.reg_c.specs.declared.reading.Unread.{Unread}
use Rattle.reg_c.specs.declared.reading.Unread.TheVariants.{NoShape, OutOfPlace, OutOfMemory}
use Rattle.reg_c.specs.declared.verdicts.Verdict.{Verdict}
use Rattle.reg_c.specs.declared.verdicts.Verdict.TheVariants.{Holds, Refused, NoHistory}
use Rattle.reg_c.specs.declared.rows.EntryRow.{EntryRow}
use Rattle.reg_c.specs.declared.rows.IdRow.{IdRow}
use Rattle.reg_c.specs.declared.rows.PointRow.{PointRow}
use Rattle.reg_c.specs.Rows.{Say, entry_of, id_of, point_of}

-- the rows before this place say a history, and the row at it says no entry, or one that is out of place after them
abbrev pub EndsAt : ℕ → ℕ → List EntryRow → List ℕ → ℕ → Type 0
EndsAt n registers rows expected k =
    (es : List Entry) × (r : EntryRow) × Say (take k rows) expected es × IsHistory n registers es × IsAt rows k r
    × MatchOption (entry_of r (slice_get expected k)) (Unit {0}) (λ e. ¬ IsInPlace n registers es e)

-- why rows say no history of such a shape. `OutOfMemory` says nothing
abbrev pub IsUnread : ℕ → ℕ → List EntryRow → List ℕ → Unread → Type 0
IsUnread n registers rows expected NoShape = (fault : ShapeFault) × (shape_of n registers ≡ Err fault)
IsUnread n registers rows expected (OutOfPlace place) = EndsAt n registers rows expected place
IsUnread n registers rows expected OutOfMemory = Unit {0}

-- the rows say this history
abbrev pub SayHistory : ℕ → ℕ → List EntryRow → List ℕ → List Entry → Type 0
SayHistory n registers rows expected es = Say rows expected es × IsHistory n registers es

-- what is told of an order: that it is serial, or the first fault that there is, or why the rows say no history
abbrev pub IsSerialVerdict : ℕ → ℕ → List EntryRow → List ℕ → List IdRow → Verdict → Type 0
IsSerialVerdict n registers rows expected ids Holds =
    (es : List Entry) × SayHistory n registers rows expected es × IsSerial registers es (map id_of ids)
IsSerialVerdict n registers rows expected ids (Refused fault) =
    (es : List Entry) × SayHistory n registers rows expected es × IsSerialFault registers es (map id_of ids) fault
IsSerialVerdict n registers rows expected ids (NoHistory why) = IsUnread n registers rows expected why

-- what is told of points: that they are a point order, or the first fault that there is, or why the rows say no history
abbrev pub IsPointVerdict : ℕ → ℕ → List EntryRow → List ℕ → List PointRow → Verdict → Type 0
IsPointVerdict n registers rows expected points Holds =
    (es : List Entry) × SayHistory n registers rows expected es × IsPointOrder registers es (map point_of points)
IsPointVerdict n registers rows expected points (Refused fault) =
    (es : List Entry) × SayHistory n registers rows expected es × IsPointFault registers es (map point_of points) fault
IsPointVerdict n registers rows expected points (NoHistory why) = IsUnread n registers rows expected why

-- the numbers by which a verdict is told

abbrev pub fault_code : CheckFault → ℕ
fault_code Unknown = 1
fault_code Twice = 2
fault_code Missing = 3
fault_code OwnOrder = 4
fault_code (Answer place) = 5
fault_code (Outside place) = 6
fault_code (Falling place) = 7
fault_code NoMemory = 8

abbrev pub unread_code : Unread → ℕ
unread_code OutOfMemory = 8
unread_code NoShape = 9
unread_code (OutOfPlace place) = 10

abbrev pub verdict_code : Verdict → ℕ
verdict_code Holds = 0
verdict_code (Refused fault) = fault_code fault
verdict_code (NoHistory why) = unread_code why

-- the place that a verdict names, else 0

abbrev pub fault_place : CheckFault → ℕ
fault_place (Answer place) = place
fault_place (Outside place) = place
fault_place (Falling place) = place
fault_place fault = 0

abbrev pub unread_place : Unread → ℕ
unread_place (OutOfPlace place) = place
unread_place why = 0

abbrev pub verdict_place : Verdict → ℕ
verdict_place Holds = 0
verdict_place (Refused fault) = fault_place fault
verdict_place (NoHistory why) = unread_place why
