-- The bytes that begin a log, by the numbers and the names that a caller gives. Promises cite it.
use Rattle.std.specs.Prelude.{ℕ, ◌≡◌, ◌<◌, ◌≤◌, ◌⊎◌, ◌++◌, codes, is_err, true, List, [], ◌∷◌, length, Some, None}
use Rattle.reg_base.specs.Names.{names_fault}
use Rattle.reg_base.specs.Shape.{shape_of}
use Rattle.reg_front.specs.declared.named.Front.{Front}
use Rattle.reg_process.specs.declared.faults.ProcessFault.TheVariants.{NoProcess, OutOfMemory}
use Rattle.reg_text.specs.Lines.{lines_of}
use Rattle.reg_text.specs.Words.{names_text}
use Rattle.reg_node.specs.declared.transcripts.logs.LogId.{LogId}
use Rattle.reg_node.specs.Headless.{IsHeadless}
use Rattle.reg_node.specs.LogTexts.{IsJournal, Journal, begun_with, log_text}
use Rattle.reg_commands.specs.Lent.{filled}
use Rattle.reg_c.specs.declared.beginning.LogRow.{LogRow}
use Rattle.reg_c.specs.Events.{no_front, no_shape, refusal_code}
use Rattle.reg_c.specs.Fronts.{front_at}
use Rattle.reg_c.specs.NodeCodes.{bad_names}

-- behind the word `registers`, the text is the one line that has these names
abbrev pub SaysNames : List ℕ → List (List ℕ) → Type 0
SaysNames text names = lines_of (codes "registers " ++ text) ≡ (codes "registers" ++ names_text names) ∷ []

abbrev pub id_in : LogRow → LogId
id_in row = record { cluster = row.cluster; process = row.process; chapter = row.chapter; begun = row.begun }

abbrev pub begun_by : LogRow → Front → List (List ℕ) → Journal
begun_by row front names =
    begun_with (id_in row) front (record { processes = row.processes; registers = length names }) names

-- the bytes are a log with no entries, which is read as what these numbers and these names say
pub record BeginsLog (row : LogRow) (text bytes : List ℕ) : Type 0 where
  pub front : Front
  pub names : List (List ℕ)
  pub is_front : front_at row.front ≡ Some front
  pub says : SaysNames text names
  pub good : IsJournal (begun_by row front names)
  pub is : bytes ≡ log_text (begun_by row front names)

-- these numbers are no shape, or it doesn't have the process
abbrev pub IsMisplaced : ℕ → ℕ → ℕ → ℕ → Type 0
IsMisplaced processes process registers code =
    ((code ≡ no_shape) × (is_err (shape_of processes registers) ≡ true))
    ⊎ ((code ≡ refusal_code NoProcess) × (processes ≤ process))

-- why no log is begun: there is no such front end, the text has no names, or the numbers are misplaced beside them; or
-- there was no memory
abbrev pub IsUnbegun : LogRow → List ℕ → ℕ → Type 0
IsUnbegun row text code =
    ((code ≡ no_front) × (front_at row.front ≡ None))
    ⊎ (((code ≡ bad_names) × ((names : List (List ℕ)) → names_fault names ≡ None → ¬ SaysNames text names))
    ⊎ (((names : List (List ℕ)) × (SaysNames text names × IsMisplaced row.processes row.process (length names) code))
    ⊎ (code ≡ refusal_code OutOfMemory)))

-- the room holds the front of a log that begins, and the length is its length; or nothing has changed
abbrev pub TellsBegun : LogRow → List ℕ → ℕ → List ℕ → List ℕ → ℕ → ℕ → Type 0
TellsBegun row text code old new old_length new_length =
    ((code ≡ 0)
    × ((bytes : List ℕ) × BeginsLog row text bytes × (new ≡ filled bytes old) × (new_length ≡ length bytes)))
    ⊎ ((0 < code) × IsUnbegun row text code × (new ≡ old) × (new_length ≡ old_length))

-- 1 says that the text is what a crash can leave of the log with these numbers before its head is whole, and 0 that it
-- isn't; or there was no memory, and nothing has changed
abbrev pub TellsHeadless : LogRow → List ℕ → ℕ → ℕ → ℕ → Type 0
TellsHeadless row text code old new =
    ((code ≡ 0) × (((new ≡ 1) × IsHeadless (id_in row) text) ⊎ ((new ≡ 0) × (¬ IsHeadless (id_in row) text))))
    ⊎ ((code ≡ refusal_code OutOfMemory) × (new ≡ old))
