-- What the check of a record writes.
use Rattle.std.specs.Prelude.{ℕ, ◌≡◌, ◌+◌, ◌<◌, ◌≤◌, ⊤, List, [], ◌∷◌, ◌++◌, length, codes, Option}
use Rattle.std.specs.Fmt.{decimal}
use Rattle.std.specs.Str.{IsUtf8}
use Rattle.reg_base.specs.declared.limits.TheConstants.{LONGEST_INPUT}
use Rattle.reg_base.specs.declared.memory.Op.{Op}
use Rattle.reg_base.specs.Shape.{Extent}
use Rattle.reg_checkers.specs.declared.entries.Point.{Point}
use Rattle.reg_front.specs.declared.starts.Start.{Start}
use Rattle.reg_text.specs.declared.faults.Why.{Why}
use Rattle.reg_history.specs.ReadFaults.{why_of}
use Rattle.reg_history.specs.Reports.{Contents, report_text}
use Rattle.reg_history.specs.declared.report_faults.ReadWhy.{ReadWhy}
use Rattle.reg_inputs.specs.Schedules.{Plan}
use Rattle.reg_world.specs.Worlds.{Made}
use Rattle.reg_records.specs.declared.entries.LogEntry.{LogEntry}
use Rattle.reg_records.specs.Records.{FailsAt, IsFaithful}
use Rattle.reg_commands.specs.FaultLines.{fault_line}
use Rattle.reg_commands.specs.Replays.{start_of, plan_in, PointsOf, Shows}
use Rattle.reg_commands.specs.declared.faults.Fault.{Fault}
use Rattle.reg_commands.specs.declared.faults.Fault.TheVariants.{Unread, TooLong, NotText, Output, Line, Event}
use Rattle.reg_commands.specs.declared.faults.Fault.TheVariants.{Workload, OutOfMemory}
use Rattle.reg_verify.specs.declared.faults.VerifyFault.{VerifyFault}
use Rattle.reg_verify.specs.declared.faults.VerifyFault.TheVariants.{Command, Unfaithful}
use Rattle.reg_node.specs.declared.transcripts.recorded.Recorded.{Recorded}
use Rattle.reg_verify.specs.Logs.{AreLogs, order_of}
use Rattle.reg_node.specs.RecordLines.{Account, IsAccount, SpellsAccount}
use Rattle.reg_node.specs.Refusals.{RefusesAccount}

-- The steps, in their order, are a run that gives their replies, and it ends in this world: each frame is taken from
-- its wire.
pub record Runs (start : Op → ℕ → Start) (shape : Extent) (steps : List Recorded) (w : Made) : Type 0 where
  pub logs : List (List LogEntry)
  pub split : AreLogs shape.processes steps logs
  pub faithful : IsFaithful start shape (order_of steps) logs w

-- The step at this place is the first with which the steps are no run: after those before it no event is accepted in
-- which its process makes that step and gives that reply.
pub record FailsFirst (start : Op → ℕ → Start) (shape : Extent) (steps : List Recorded) (place : ℕ) : Type 0 where
  pub logs : List (List LogEntry)
  pub split : AreLogs shape.processes steps logs
  pub within : place < length steps
  pub fails : FailsAt start shape (order_of steps) logs place

-- the line of the step at a place, after the four header lines
abbrev pub line_at : ℕ → ℕ
line_at place = place + 5

-- The steps of a record are a run, and this is its report, under the record's front end and names: its history and its
-- witness, and points as `AreSo` says.
pub record ShowsAccount (start : Op → ℕ → Start) (a : Account) (AreSo : Plan → Option (List Point) → Type 0)
    (r : Contents) : Type 0 where
  pub world : Made
  pub runs : Runs start a.shape a.steps world
  pub shows : Shows start (plan_in a.front a.names world) r
  pub points : AreSo (plan_in a.front a.names world) r.points

-- the report of a record's steps, with points where the front end has some
abbrev pub IsReportOfAccount : Account → Contents → Type 0
IsReportOfAccount a r = ShowsAccount (start_of a.front) a (PointsOf a.front) r

-- The text is that of a record, and the report of its run was written: `Wrote` says how a text was written.
pub record Verifies (Wrote : List ℕ → Type 0) (text : List ℕ) : Type 0 where
  pub account : Account
  pub good : IsAccount account
  pub read : SpellsAccount text account
  pub report : Contents
  pub shown : IsReportOfAccount account report
  pub written : Wrote (report_text report)

-- the text is that of a record whose steps are a run
abbrev pub IsAccepted : List ℕ → Type 0
IsAccepted text =
    (a : Account) × IsAccount a × SpellsAccount text a × ((w : Made) × Runs (start_of a.front) a.shape a.steps w)

-- the text is no record's, and the line is the first with which none goes on
abbrev pub IsRefused : ℕ → ReadWhy → List ℕ → Type 0
IsRefused line why text =
    ((a : Account) → IsAccount a → ¬ SpellsAccount text a)
    × (length text ≤ LONGEST_INPUT → (told : Why) × (why ≡ why_of told) × RefusesAccount line told text)

-- The text is that of a record, and the step on this line is the first with which its steps are no run.
pub record IsUnfaithful (line : ℕ) (text : List ℕ) : Type 0 where
  pub account : Account
  pub good : IsAccount account
  pub read : SpellsAccount text account
  pub place : ℕ
  pub line_is : line ≡ line_at place
  pub first : FailsFirst (start_of account.front) account.shape account.steps place

-- what a fault of a command says of the text; that the output failed is told only of what is accepted
abbrev pub BlamesText : Fault → List ℕ → Type 0
BlamesText Unread text = ⊤
BlamesText TooLong text = LONGEST_INPUT < length text
BlamesText NotText text = ¬ (IsUtf8 text)
BlamesText Output text = IsAccepted text
BlamesText (Line line why) text = IsRefused line why text
BlamesText (Event at fault) text = ⊥
BlamesText (Workload fault) text = ⊥
BlamesText OutOfMemory text = ⊤

-- what a fault says of the text
abbrev pub BlamesAccount : VerifyFault → List ℕ → Type 0
BlamesAccount (Command fault) text = BlamesText fault text
BlamesAccount (Unfaithful line) text = IsUnfaithful line text

-- the line of a fault on the error stream, with its line feed
abbrev pub verify_line : VerifyFault → List ℕ
verify_line (Command fault) = fault_line fault
verify_line (Unfaithful line) = codes "line " ++ decimal line ++ (codes ": unfaithful" ++ 10 ∷ [])
