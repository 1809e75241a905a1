-- The text of a log. Promises cite it.
use Rattle.std.specs.Prelude.{ℕ, ◌≡◌, ◌<◌, ◌^◌, List, [], ◌∷◌, ◌++◌, map, codes}
use Rattle.std.specs.Fmt.{decimal}
use Rattle.reg_base.specs.Shape.{Extent}
use Rattle.reg_front.specs.declared.named.Front.{Front}
use Rattle.reg_records.specs.declared.entries.LogEntry.{LogEntry}
use Rattle.reg_node.specs.declared.transcripts.recorded.Recorded.{Recorded}
use Rattle.reg_node.specs.declared.transcripts.logs.LogId.{LogId}
use Rattle.reg_node.specs.RecordLines.{Account, IsAccount, account_lines, recorded_text}
use Rattle.reg_node.specs.Seals.{IsTorn, crc_after, first_crc, sealed, sealed_line}

-- what a log holds: which log it is, the node's front end, shape and names, and what its process did
pub record Journal : Type 0 where
  pub id : LogId
  pub front : Front
  pub shape : Extent
  pub names : List (List ℕ)
  pub entries : List LogEntry

-- the entry, as a record has it
abbrev pub recorded_by : ℕ → LogEntry → Recorded
recorded_by process entry = record { process = process; entry = entry }

-- the record of this process alone
abbrev pub account_of : Journal → Account
account_of j =
    record { front = j.front; shape = j.shape; names = j.names; steps = map (recorded_by j.id.process) j.entries }

-- the lines that say which log it is, and then the rest
abbrev pub id_lines : LogId → List (List ℕ) → List (List ℕ)
id_lines id rest =
    codes "tellwydar log 1" ∷ (codes "cluster " ++ decimal id.cluster) ∷ (codes "process " ++ decimal id.process)
    ∷ (codes "chapter " ++ decimal id.chapter) ∷ (codes "begun " ++ decimal id.begun) ∷ rest

-- the lines of a log: behind those, the lines of a record
abbrev pub log_lines : Journal → List (List ℕ)
log_lines j = id_lines j.id (account_lines (account_of j))

-- a log with no entries
abbrev pub begun_with : LogId → Front → Extent → List (List ℕ) → Journal
begun_with id front shape names = record { id = id; front = front; shape = shape; names = names; entries = [] }

-- within the limits of a log
pub record IsJournal (j : Journal) : Type 0 where
  pub account : IsAccount (account_of j)
  pub process : j.id.process < j.shape.processes
  pub cluster : j.id.cluster < 2 ^ 64
  pub chapter : j.id.chapter < 2 ^ 64
  pub begun : j.id.begun < 2 ^ 64

-- the text of a log: each line behind its seal
abbrev pub log_text : Journal → List ℕ
log_text j = sealed first_crc (log_lines j)

-- the register behind it, with which it goes on
abbrev pub log_crc : Journal → ℕ
log_crc j = crc_after first_crc (log_lines j)

-- with one more entry
abbrev pub grown_by : Journal → LogEntry → Journal
grown_by j entry = record j { entries = j.entries ++ entry ∷ [] }

-- and the line of that entry
abbrev pub entry_line : Journal → LogEntry → List ℕ
entry_line j entry = sealed_line (log_crc j) (recorded_text j.names (recorded_by j.id.process entry))

-- the bytes are the text of the log, and then what a crash left, where no further line is whole
pub record SpellsLog (bytes : List ℕ) (j : Journal) (tail : List ℕ) : Type 0 where
  pub all : bytes ≡ log_text j ++ tail
  pub torn : IsTorn (log_crc j) tail
