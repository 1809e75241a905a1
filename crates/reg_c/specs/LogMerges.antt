-- The logs of all processes of a chapter, merged over memory that a caller lends. Promises cite it.
use Rattle.std.specs.Prelude.{ℕ, ◌≡◌, ◌<◌, ◌⊎◌, List, [], ◌∷◌, length, take, drop}
use Rattle.reg_process.specs.declared.faults.ProcessFault.TheVariants as refusals
use Rattle.reg_commands.specs.Lent.{filled}
use Rattle.reg_node.specs.RecordLines.{Account, account_text}
use Rattle.reg_verify.specs.Gathers.{IsLogsFault, MergesLogs}
use Rattle.reg_verify.specs.declared.gathering.HeadPart.{HeadPart}
use Rattle.reg_verify.specs.declared.gathering.HeadPart.TheVariants.{Cluster, Chapter, Front, Processes, Registers}
use Rattle.reg_verify.specs.declared.gathering.LogsFault.{LogsFault}
use Rattle.reg_verify.specs.declared.gathering.LogsFault.TheVariants.{NoLog, Unread, Other, Twice, Missing, TooMany}
use Rattle.reg_verify.specs.declared.gathering.LogsFault.TheVariants.{Unfaithful, OutOfMemory}
use Rattle.reg_c.specs.declared.log_merges.MergedRow.{MergedRow}
use Rattle.reg_c.specs.Events.{refusal_code}
use Rattle.reg_c.specs.NodeCodes.{log_code, log_place}

-- the bytes in parts of these lengths: what is behind the last is in none, and the last ones may be short
abbrev pub parts : List ℕ → List ℕ → List (List ℕ)
parts [] bytes = []
parts (n ∷ lengths) bytes = take n bytes ∷ parts lengths (drop n bytes)

abbrev pub part_number : HeadPart → ℕ
part_number Cluster = 0
part_number Chapter = 1
part_number Front = 2
part_number Processes = 3
part_number Registers = 4

-- why logs have no record that is a run; a text that is no log is told as a node tells it that is opened with it
abbrev pub logs_code : LogsFault → ℕ
logs_code NoLog = 96
logs_code (Unread log fault) = log_code fault
logs_code (Other log part) = 97
logs_code (Twice log before) = 98
logs_code (Missing process) = 99
logs_code TooMany = 100
logs_code (Unfaithful log entry) = 101
logs_code OutOfMemory = refusal_code refusals.OutOfMemory

-- the log that it names
abbrev pub logs_log : LogsFault → ℕ
logs_log NoLog = 0
logs_log (Unread log fault) = log
logs_log (Other log part) = log
logs_log (Twice log before) = log
logs_log (Missing process) = 0
logs_log TooMany = 0
logs_log (Unfaithful log entry) = log
logs_log OutOfMemory = 0

-- and what else: a line or an entry, a part of the head, the log before, the process
abbrev pub logs_place : LogsFault → ℕ
logs_place NoLog = 0
logs_place (Unread log fault) = log_place fault
logs_place (Other log part) = part_number part
logs_place (Twice log before) = before
logs_place (Missing process) = process
logs_place TooMany = 0
logs_place (Unfaithful log entry) = entry
logs_place OutOfMemory = 0

-- the row with the length of a text
abbrev pub with_length : MergedRow → ℕ → MergedRow
with_length row n = record row { length = n }

-- the row with what a fault names
abbrev pub with_fault : MergedRow → LogsFault → MergedRow
with_fault row fault = record row { log = logs_log fault; place = logs_place fault }

-- the room holds the front of the text of the merged record, and its length is told; or why there is none
abbrev pub TellsMergedLogs : List (List ℕ) → List ℕ → List ℕ → MergedRow → MergedRow → ℕ → Type 0
TellsMergedLogs texts old new row_old row_new code =
    ((code ≡ 0)
    × ((r : Account) × MergesLogs texts r × (new ≡ filled (account_text r) old)
    × (row_new ≡ with_length row_old (length (account_text r)))))
    ⊎ ((0 < code)
    × ((fault : LogsFault) × IsLogsFault texts fault × (code ≡ logs_code fault) × (row_new ≡ with_fault row_old fault)
    × (new ≡ old)))
