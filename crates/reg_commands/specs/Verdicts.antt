-- What a report read is told.
use Rattle.std.specs.Prelude.{ℕ, Bool, true, false, ◌&&◌, List, [], ◌∷◌, ◌++◌, codes, Option, None, Some}
use Rattle.std.specs.Fmt.{decimal}
use Rattle.reg_checkers.specs.declared.entries.Point.{Point}
use Rattle.reg_checkers.specs.declared.faults.CheckFault.{CheckFault}
use Rattle.reg_checkers.specs.declared.faults.CheckFault.TheVariants.{Unknown as UnknownFault, Twice as TwiceFault}
use Rattle.reg_checkers.specs.declared.faults.CheckFault.TheVariants.{Missing as MissingFault}
use Rattle.reg_checkers.specs.declared.faults.CheckFault.TheVariants.{OwnOrder as OwnOrderFault, Answer as AnswerFault}
use Rattle.reg_checkers.specs.declared.faults.CheckFault.TheVariants.{Outside as OutsideFault, Falling as FallingFault}
use Rattle.reg_checkers.specs.Orders.{IsSerial, IsPointOrder}
use Rattle.reg_checkers.specs.Checks.{IsSerialFault, IsPointFault}
use Rattle.reg_history.specs.Reports.{Contents}
use Rattle.reg_commands.specs.declared.verdicts.Reason.{Reason}
use Rattle.reg_commands.specs.declared.verdicts.Reason.TheVariants.{Unknown, Twice, Missing, OwnOrder, Answer, Outside}
use Rattle.reg_commands.specs.declared.verdicts.Reason.TheVariants.{Falling}
use Rattle.reg_commands.specs.declared.verdicts.Verdict.{Verdict}
use Rattle.reg_commands.specs.declared.verdicts.Verdict.TheVariants.{Yes, No}
use Rattle.reg_commands.specs.declared.verdicts.Verdicts.{Verdicts}

-- the fault of a checker that has this reason: each fault but `OutOfMemory`
abbrev pub fault_of : Reason → CheckFault
fault_of Unknown = UnknownFault
fault_of Twice = TwiceFault
fault_of Missing = MissingFault
fault_of OwnOrder = OwnOrderFault
fault_of (Answer place) = AnswerFault place
fault_of (Outside place) = OutsideFault place
fault_of (Falling place) = FallingFault place

-- the order is serial, or this is the first fault that it has
abbrev pub SerialSays : Contents → Verdict → Type 0
SerialSays r Yes = IsSerial r.shape.registers r.entries r.order
SerialSays r (No reason) = IsSerialFault r.shape.registers r.entries r.order (fault_of reason)

-- the points are a point order, or this is the first fault that they have
abbrev pub PointsSay : Contents → List Point → Verdict → Type 0
PointsSay r ps Yes = IsPointOrder r.shape.registers r.entries ps
PointsSay r ps (No reason) = IsPointFault r.shape.registers r.entries ps (fault_of reason)

-- points are judged exactly where there are any
abbrev pub AllPointsSay : Contents → Option (List Point) → Option Verdict → Type 0
AllPointsSay r None None = Unit {0}
AllPointsSay r None (Some verdict) = ⊥
AllPointsSay r (Some ps) None = ⊥
AllPointsSay r (Some ps) (Some verdict) = PointsSay r ps verdict

abbrev pub Judges : Contents → Verdicts → Type 0
Judges r v = SerialSays r v.serial × AllPointsSay r r.points v.points

abbrev pub is_yes : Verdict → Bool
is_yes Yes = true
is_yes (No reason) = false

abbrev pub is_yes_or_none : Option Verdict → Bool
is_yes_or_none None = true
is_yes_or_none (Some verdict) = is_yes verdict

-- every line says yes
abbrev pub all_yes : Verdicts → Bool
all_yes v = is_yes v.serial && is_yes_or_none v.points

-- the words of a verdict after its name
abbrev pub verdict_words : Verdict → List ℕ
verdict_words Yes = codes " yes"
verdict_words (No Unknown) = codes " no: unknown"
verdict_words (No Twice) = codes " no: twice"
verdict_words (No Missing) = codes " no: missing"
verdict_words (No OwnOrder) = codes " no: own order"
verdict_words (No (Answer place)) = codes " no: answer at " ++ decimal place
verdict_words (No (Outside place)) = codes " no: outside at " ++ decimal place
verdict_words (No (Falling place)) = codes " no: falling at " ++ decimal place

-- the line of a verdict
abbrev pub verdict_line : List ℕ → Verdict → List ℕ
verdict_line name verdict = name ++ verdict_words verdict ++ 10 ∷ []

abbrev pub points_line : Option Verdict → List ℕ
points_line None = []
points_line (Some verdict) = verdict_line (codes "points") verdict

-- what is written for a report
abbrev pub verdicts_text : Verdicts → List ℕ
verdicts_text v = verdict_line (codes "serial") v.serial ++ points_line v.points
