-- The logs of all processes of one chapter, gathered as one record. Promises cite it.
use Rattle.std.specs.Prelude.{ℕ, ⊤, ◌≡◌, ◌≢◌, ◌+◌, ◌<◌, List, [], ◌∷◌, ◌++◌, length, map, take}
use Rattle.reg_base.specs.declared.limits.TheConstants.{MOST_EVENTS}
use Rattle.reg_checkers.specs.History.{IsAt}
use Rattle.reg_text.specs.Parts.{Lacks}
use Rattle.reg_commands.specs.Replays.{start_of}
use Rattle.reg_node.specs.declared.transcripts.recorded.Recorded.{Recorded}
use Rattle.reg_node.specs.declared.transcripts.logs.LogFault.{LogFault}
use Rattle.reg_node.specs.declared.transcripts.logs.LogFault.TheVariants as logs
use Rattle.reg_node.specs.LogFaults.{IsNoLog}
use Rattle.reg_node.specs.LogTexts.{IsJournal, Journal, SpellsLog, recorded_by}
use Rattle.reg_node.specs.RecordLines.{Account}
use Rattle.reg_verify.specs.declared.gathering.HeadPart.{HeadPart}
use Rattle.reg_verify.specs.declared.gathering.HeadPart.TheVariants.{Cluster, Chapter, Front, Processes, Registers}
use Rattle.reg_verify.specs.declared.gathering.LogsFault.{LogsFault}
use Rattle.reg_verify.specs.declared.gathering.LogsFault.TheVariants.{NoLog, Unread, Other, Twice, Missing, TooMany}
use Rattle.reg_verify.specs.declared.gathering.LogsFault.TheVariants.{Unfaithful, OutOfMemory}
use Rattle.reg_verify.specs.Merges.{IsStuckAt, ShowsMerged}

-- Logs as they are read

-- the text is that of the log, and then what a crash left, in which no line ends
pub record IsTextOf (text : List ℕ) (j : Journal) : Type 0 where
  pub tail : List ℕ
  pub good : IsJournal j
  pub spelled : SpellsLog text j tail
  pub torn : Lacks 10 tail

-- the texts are those of these logs
pub record AreSpelled (texts : List (List ℕ)) (journals : List Journal) : Type 0 where
  pub count : length journals ≡ length texts
  pub each : (k : ℕ) (j : Journal) → IsAt journals k j → (text : List ℕ) × IsAt texts k text × IsTextOf text j

-- a log is spelled that has no entry at this place, and behind its last line that stands whole a further one ends
pub record IsBroken (text : List ℕ) (place : ℕ) : Type 0 where
  pub journal : Journal
  pub tail : List ℕ
  pub good : IsJournal journal
  pub spelled : SpellsLog text journal tail
  pub ends : place ≡ length journal.entries
  pub further : ¬ Lacks 10 tail

-- why a text is read as no log
abbrev pub IsUnread : List ℕ → LogFault → Type 0
IsUnread text (logs.Line number why) = IsNoLog text
IsUnread text logs.NoProcess = IsNoLog text
IsUnread text (logs.Foreign place) = IsNoLog text
IsUnread text (logs.Damaged place) = IsBroken text place
IsUnread text logs.OutOfMemory = ⊤

-- Logs of one chapter

-- two logs have this part of their heads in common
abbrev pub Share : HeadPart → Journal → Journal → Type 0
Share Cluster a b = a.id.cluster ≡ b.id.cluster
Share Chapter a b = a.id.chapter ≡ b.id.chapter
Share Front a b = a.front ≡ b.front
Share Processes a b = a.shape.processes ≡ b.shape.processes
Share Registers a b = a.names ≡ b.names

-- they have all these parts in common; each register has a name, so their shapes are the same
pub record Agree (a b : Journal) : Type 0 where
  pub cluster : Share Cluster a b
  pub chapter : Share Chapter a b
  pub front : Share Front a b
  pub processes : Share Processes a b
  pub registers : Share Registers a b

-- they differ in this part, and in none before it
abbrev pub DifferFirst : HeadPart → Journal → Journal → Type 0
DifferFirst Cluster a b = ¬ Share Cluster a b
DifferFirst Chapter a b = Share Cluster a b × ¬ Share Chapter a b
DifferFirst Front a b = Share Cluster a b × Share Chapter a b × ¬ Share Front a b
DifferFirst Processes a b = Share Cluster a b × Share Chapter a b × Share Front a b × ¬ Share Processes a b
DifferFirst Registers a b =
    Share Cluster a b × Share Chapter a b × Share Front a b × Share Processes a b × ¬ Share Registers a b

-- each log agrees with the first
abbrev pub AllAgree : List Journal → Type 0
AllAgree journals =
    (first : Journal) → IsAt journals 0 first → (k : ℕ) (j : Journal) → IsAt journals k j → Agree first j

-- no two logs are of one process
abbrev pub AreApart : List Journal → Type 0
AreApart journals =
    (i k : ℕ) (a b : Journal) → i < k → IsAt journals i a → IsAt journals k b → a.id.process ≢ b.id.process

-- a log is of this process
abbrev pub HasLogOf : ℕ → List Journal → Type 0
HasLogOf p journals = (k : ℕ) × (j : Journal) × IsAt journals k j × (j.id.process ≡ p)

-- These are logs of one chapter, one of each process: the first stands at 0.
pub record AreGathered (first : Journal) (journals : List Journal) : Type 0 where
  pub begins : IsAt journals 0 first
  pub agree : AllAgree journals
  pub apart : AreApart journals
  pub all : (p : ℕ) → p < first.shape.processes → HasLogOf p journals

-- Their steps

-- the steps of a log, as a record has them
abbrev pub steps_of : Journal → List Recorded
steps_of j = map (recorded_by j.id.process) j.entries

-- the steps of all logs, log by log
abbrev pub joined : List Journal → List Recorded
joined [] = []
joined (j ∷ js) = steps_of j ++ joined js

-- the record of all logs: the first one's front end, shape and names, and the steps of all
abbrev pub account_of_all : Journal → List Journal → Account
account_of_all first journals =
    record { front = first.front; shape = first.shape; names = first.names; steps = joined journals }

-- the entry of this number, from 0, of the log at a place has its step at this place of the joined ones
pub record IsEntryAt (journals : List Journal) (log entry place : ℕ) : Type 0 where
  pub journal : Journal
  pub at : IsAt journals log journal
  pub within : entry < length journal.entries
  pub place_is : place ≡ length (joined (take log journals)) + entry

-- What is told

-- The texts are logs of one chapter, and the record is that of all their steps in an order that is a run.
pub record MergesLogs (texts : List (List ℕ)) (r : Account) : Type 0 where
  pub first : Journal
  pub journals : List Journal
  pub spelled : AreSpelled texts journals
  pub gathered : AreGathered first journals
  pub shown : ShowsMerged (account_of_all first journals) r

-- the log at this place is the first that doesn't agree with the first one, and differs from it in this part
pub record IsOther (journals : List Journal) (log : ℕ) (part : HeadPart) : Type 0 where
  pub first : Journal
  pub begins : IsAt journals 0 first
  pub journal : Journal
  pub at : IsAt journals log journal
  pub differ : DifferFirst part first journal
  pub before : (k : ℕ) (j : Journal) → k < log → IsAt journals k j → Agree first j

-- the log at this place is of the process of one before it
pub record IsTwice (journals : List Journal) (log before : ℕ) : Type 0 where
  pub journal : Journal
  pub earlier : Journal
  pub at : IsAt journals log journal
  pub there : IsAt journals before earlier
  pub less : before < log
  pub same : earlier.id.process ≡ journal.id.process

-- the first log's shape has this process, and no log is of it
pub record IsMissing (journals : List Journal) (process : ℕ) : Type 0 where
  pub first : Journal
  pub begins : IsAt journals 0 first
  pub within : process < first.shape.processes
  pub none : ¬ HasLogOf process journals

-- the logs are of one chapter, and have more steps than a record may have
pub record AreTooMany (journals : List Journal) : Type 0 where
  pub first : Journal
  pub gathered : AreGathered first journals
  pub many : MOST_EVENTS < length (joined journals)

-- The logs are of one chapter, and this entry of this log is in no run of first entries of them.
pub record IsStuckEntry (journals : List Journal) (log entry : ℕ) : Type 0 where
  pub first : Journal
  pub gathered : AreGathered first journals
  pub place : ℕ
  pub entry_is : IsEntryAt journals log entry place
  pub stuck : IsStuckAt (start_of first.front) first.shape (joined journals) place

-- what a fault that no text has alone says of the logs
abbrev pub IsGatherFault : List Journal → LogsFault → Type 0
IsGatherFault journals NoLog = journals ≡ []
IsGatherFault journals (Unread log fault) = ⊥
IsGatherFault journals (Other log part) = IsOther journals log part
IsGatherFault journals (Twice log before) = IsTwice journals log before
IsGatherFault journals (Missing process) = IsMissing journals process
IsGatherFault journals TooMany = AreTooMany journals
IsGatherFault journals (Unfaithful log entry) = IsStuckEntry journals log entry
IsGatherFault journals OutOfMemory = ⊤

-- the texts are those of logs of which a fault says this
abbrev pub IsOfLogs : List (List ℕ) → LogsFault → Type 0
IsOfLogs texts fault = (journals : List Journal) × AreSpelled texts journals × IsGatherFault journals fault

-- what a fault says of the texts
abbrev pub IsLogsFault : List (List ℕ) → LogsFault → Type 0
IsLogsFault texts NoLog = texts ≡ []
IsLogsFault texts (Unread log fault) = (text : List ℕ) × IsAt texts log text × IsUnread text fault
IsLogsFault texts (Other log part) = IsOfLogs texts (Other log part)
IsLogsFault texts (Twice log before) = IsOfLogs texts (Twice log before)
IsLogsFault texts (Missing process) = IsOfLogs texts (Missing process)
IsLogsFault texts TooMany = IsOfLogs texts TooMany
IsLogsFault texts (Unfaithful log entry) = IsOfLogs texts (Unfaithful log entry)
IsLogsFault texts OutOfMemory = ⊤
