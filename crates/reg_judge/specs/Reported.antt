-- What is found out of a report's history, and what is answered. To be believed: promises speak of it.
use Rattle.std.specs.Prelude.{ℕ, ◌≡◌, ◌++◌, ⊤, Bool, true, false, List, map, codes, Option, Some, None, Result, Ok, Err}
use Rattle.std.specs.Prelude.{if◌then◌else◌}
use Rattle.std.specs.List.{AllZip}
use Rattle.std.specs.Result.{is_ok}
use Rattle.reg_base.specs.Memory.{register_of}
use Rattle.reg_base.specs.declared.memory.Op.{Op}
use Rattle.reg_base.specs.declared.memory.OpId.{OpId}
use Rattle.reg_checkers.specs.History.{IsCalled}
use Rattle.reg_checkers.specs.declared.entries.Entry.{Entry}
use Rattle.reg_checkers.specs.declared.entries.Entry.TheVariants.{Called, Answered}
use Rattle.reg_checkers.specs.declared.entries.Point.{Point}
use Rattle.reg_commands.specs.Answers.{Blames}
use Rattle.reg_commands.specs.declared.command.Command.TheVariants.{Check}
use Rattle.reg_history.specs.Reports.{Contents, IsReport, SpellsReport, report_text}
use Rattle.reg_judge.specs.Rulings.{AreRuled, IsFound, RulesSerial}
use Rattle.reg_judge.specs.Standing.{act_op}
use Rattle.reg_judge.specs.declared.rulings.faults.RulingFault.{RulingFault}
use Rattle.reg_judge.specs.declared.rulings.faults.RulingFault.TheVariants.{Command, Rule}
use Rattle.reg_judge.specs.declared.rulings.keys.Ruling.{Ruling}
use Rattle.reg_judge.specs.declared.rulings.rows.Act.{Act}
use Rattle.reg_judge.specs.declared.rulings.rows.Row.{Row}
use Rattle.reg_judge.specs.declared.rulings.rows.Step.{Step}
use Rattle.reg_judge.specs.declared.rulings.rows.Step.TheVariants.{Call, Answer}
use Rattle.reg_judge.specs.declared.rulings.serial.Serial.{Serial}

-- the call of this operation, at the register that it names
abbrev pub IsCallOf : Op → Step → Type 0
IsCallOf op step =
    (act : Act) × (expected : ℕ) × (value : ℕ) × (step ≡ Call act expected value)
    × (act_op act (register_of op) expected value ≡ op)

-- the register of the operation that was called under this id
abbrev pub IsRegisterOf : List Entry → OpId → ℕ → Type 0
IsRegisterOf h id register = (at : ℕ) × (op : Op) × IsCalled h id at op × (register ≡ register_of op)

-- a call, or an answer at the register of its call, as a row
abbrev pub IsRowOf : List Entry → Entry → Row → Type 0
IsRowOf h (Called at id op) row =
    (row.at ≡ at) × (row.process ≡ id.process) × (row.key ≡ register_of op) × IsCallOf op row.step
IsRowOf h (Answered at id answer) row =
    (row.at ≡ at) × (row.process ≡ id.process) × IsRegisterOf h id row.key × (row.step ≡ Answer answer)

-- the rows of a history: one for each entry
abbrev pub AreRowsOf : List Entry → List Row → Type 0
AreRowsOf h rows = AllZip (IsRowOf h) h rows

-- whether there is a serial order is found out where there is no point order, which would be one
abbrev pub SerialFound : ℕ → List Entry → Result (List Point) ℕ → Option Serial → Type 0
SerialFound registers entries (Ok points) None = ⊤
SerialFound registers entries (Ok points) (Some serial) = ⊥
SerialFound registers entries (Err place) None = ⊥
SerialFound registers entries (Err place) (Some serial) = RulesSerial registers entries serial

-- What is found out of a report: of its history, of each register by itself, and whether there is a serial order. Its
-- own order and points are not looked at.
pub record IsJudgedReport (r : Contents) (found : Result (List Point) ℕ) (rulings : List Ruling)
    (serial : Option Serial) : Type 0 where
  pub whole : IsFound r.shape.registers r.entries found
  pub rows : List Row
  pub are : AreRowsOf r.entries rows
  pub each : AreRuled r.shape.processes r.shape.registers rows rulings
  pub in_series : SerialFound r.shape.registers r.entries found serial

-- a report of these entries: of so many registers, with these points, whose operations are its order
pub record IsReportOf (registers : ℕ) (entries : List Entry) (points : List Point) (r : Contents) : Type 0 where
  pub report : IsReport r
  pub shape : r.shape.registers ≡ registers
  pub history : r.entries ≡ entries
  pub order : r.order ≡ map (λ p. p.id) points
  pub with_points : r.points ≡ Some points

-- the first word, with its line feed
abbrev pub word_of : Bool → List ℕ
word_of found = if found then codes "yes\n" else codes "no\n"

-- the text begins with the word
abbrev pub Says : Bool → List ℕ → Type 0
Says found text = (more : List ℕ) × (text ≡ word_of found ++ more)

-- the report with these points, which are its order too: all else is as it was
pub record IsPointed (r : Contents) (points : List Point) (found : Contents) : Type 0 where
  pub is : IsReportOf r.shape.registers r.entries points found
  pub shape : found.shape ≡ r.shape
  pub front : found.front ≡ r.front
  pub names : found.names ≡ r.names

-- The report with the points that were found, where it is asked for and there are some; and else a text that begins
-- with a word, with lines for a person.
abbrev pub IsReportAnswer : Bool → Contents → Result (List Point) ℕ → List ℕ → Type 0
IsReportAnswer true r (Ok points) text = (found : Contents) × IsPointed r points found × (text ≡ report_text found)
IsReportAnswer true r (Err place) text = Says false text
IsReportAnswer false r found text = Says (is_ok found) text

-- The text spells a report, this is found out of it, and the answer was written: `Wrote` says how a text was.
pub record JudgesReport (as_report found : Bool) (Wrote : List ℕ → Type 0) (text : List ℕ) : Type 0 where
  pub report : Contents
  pub read : SpellsReport text report
  pub order : Result (List Point) ℕ
  pub rulings : List Ruling
  pub serial : Option Serial
  pub judged : IsJudgedReport report order rulings serial
  pub says : is_ok order ≡ found
  pub written : (answer : List ℕ) × IsReportAnswer as_report report order answer × Wrote answer

-- what a fault says of the text: of a command, what it says where a report is checked; else that it is a report, and of
-- its history nothing
abbrev pub BlamesRuling : RulingFault → List ℕ → Type 0
BlamesRuling (Command fault) text = Blames Check fault text
BlamesRuling (Rule fault) text = (r : Contents) × SpellsReport text r
