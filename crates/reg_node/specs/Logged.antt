-- A node that spells the entries of its log. Promises cite it.
use Rattle.std.specs.Prelude.{ℕ, ◌≡◌, ◌⊎◌, ◌++◌, Bool, true, false, List, [], ◌∷◌, Result, Ok, Err}
use Rattle.reg_base.specs.declared.memory.Op.{Op}
use Rattle.reg_front.specs.declared.starts.Start.{Start}
use Rattle.reg_process.specs.declared.steps.Step.{Step}
use Rattle.reg_process.specs.Process.{State}
use Rattle.reg_records.specs.declared.entries.LogEntry.{LogEntry}
use Rattle.reg_node.specs.LogTexts.{Journal, grown_by, log_crc, log_text, recorded_by}
use Rattle.reg_node.specs.RecordLines.{recorded_text}
use Rattle.reg_node.specs.Seals.{crc_behind, sealed_line}
use Rattle.reg_node.specs.declared.faults.LoggedFault.{LoggedFault}
use Rattle.reg_node.specs.declared.faults.MeetingFault.{MeetingFault}
use Rattle.reg_node.specs.declared.faults.LoggedFault.TheVariants.{Stopped, Unspelled, OfMeeting}
use Rattle.reg_node.specs.Logs.{Outgoing}
use Rattle.reg_node.specs.Meetings.{MeetingState, MeetingHandsOut, MeetingHandsOutNothing, MeetingLogs}
use Rattle.reg_node.specs.Meetings.{MeetingLogsNothing}
use Rattle.reg_node.specs.Nodes.{Lives, Past}

-- Such a node as contracts see it: a node that meets the others, what the lines of its log need, and whether it has
-- stopped.
pub record LoggedState : Type 0 where
  pub meeting : MeetingState
  pub process : ℕ
  pub names : List (List ℕ)
  pub crc : ℕ
  pub stopped : Bool

-- the text of its entry
abbrev pub text_by : LoggedState → LogEntry → List ℕ
text_by l entry = recorded_text l.names (recorded_by l.process entry)

-- what was made is an entry, which these bytes spell behind the log
pub record SpellsEntry (old : LoggedState) (made : Result LogEntry MeetingFault) (bytes : List ℕ)
    (new : LoggedState) : Type 0 where
  pub entry : LogEntry
  pub is : made ≡ Ok entry
  pub spelled : bytes ≡ sealed_line old.crc (text_by old entry)
  pub rest : new ≡ record old { crc = crc_behind old.crc (text_by old entry) }

-- no bytes spell it: it is none, or it has no text here, and the node stops
abbrev pub SpellsNothing : LoggedState → Result LogEntry MeetingFault → LoggedFault → LoggedState → Type 0
SpellsNothing old made Stopped new = ⊥
SpellsNothing old made Unspelled new = ((entry : LogEntry) × (made ≡ Ok entry)) × (new ≡ record old { stopped = true })
SpellsNothing old made (OfMeeting fault) new = (made ≡ Err fault) × (new ≡ old)

-- it made a step, whose entry these bytes spell behind the log that it has
pub record Writes (start : Op → ℕ → Start) (old : LoggedState) (e : Step) (bytes : List ℕ)
    (new : LoggedState) : Type 0 where
  pub entry : LogEntry
  pub kept : old.stopped ≡ false
  pub made : MeetingLogs start old.meeting e entry new.meeting
  pub spelled : bytes ≡ sealed_line old.crc (text_by old entry)
  pub rest : new ≡ record old { meeting = new.meeting; crc = crc_behind old.crc (text_by old entry) }

-- nothing is to be written: it has stopped; or it stops here, since it made a step and has no text of its entry; or it
-- made no step
abbrev pub WritesNothing : (Op → ℕ → Start) → LoggedState → Step → LoggedFault → LoggedState → Type 0
WritesNothing start old e Stopped new = (old.stopped ≡ true) × (new ≡ old)
WritesNothing start old e Unspelled new =
    (old.stopped ≡ false) × ((entry : LogEntry) × MeetingLogs start old.meeting e entry new.meeting)
    × (new ≡ record old { meeting = new.meeting; stopped = true })
WritesNothing start old e (OfMeeting fault) new =
    (old.stopped ≡ false) × MeetingLogsNothing start old.meeting e fault new.meeting
    × (new ≡ record old { meeting = new.meeting })

-- This is what the node did, and its log is what it logged.
pub record IsSpelled (start : Op → ℕ → Start) (first : State) (j : Journal) (past : Past)
    (l : LoggedState) : Type 0 where
  pub lives : Lives start first past l.meeting.node
  pub entries : j.entries ≡ past.log
  pub process : j.id.process ≡ l.process
  pub names : j.names ≡ l.names
  pub crc : l.crc ≡ log_crc j

-- with one more entry
abbrev pub past_with : Past → LogEntry → Past
past_with past entry = record past { log = past.log ++ entry ∷ [] }

-- the log grew by these bytes, which spell one more entry of what the node did
pub record IsSpelledOn (start : Op → ℕ → Start) (first : State) (j : Journal) (past : Past) (bytes : List ℕ)
    (new : LoggedState) : Type 0 where
  pub entry : LogEntry
  pub text : log_text (grown_by j entry) ≡ log_text j ++ bytes
  pub spelled : IsSpelled start first (grown_by j entry) (past_with past entry) new

-- the node handed something out, and had not stopped
pub record LoggedHandsOut (old : LoggedState) (output : Outgoing) (new : LoggedState) : Type 0 where
  pub kept : old.stopped ≡ false
  pub made : MeetingHandsOut old.meeting output new.meeting
  pub rest : new ≡ record old { meeting = new.meeting }

-- or nothing: it had stopped, or nothing is due
abbrev pub LoggedHandsOutNothing : LoggedState → LoggedState → Type 0
LoggedHandsOutNothing old new = ((old.stopped ≡ true) ⊎ MeetingHandsOutNothing old.meeting old.meeting) × (new ≡ old)
