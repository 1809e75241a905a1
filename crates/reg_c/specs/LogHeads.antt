-- What the head of a log says, as a row and its names over memory that a caller lends. Promises cite it.
use Rattle.std.specs.Prelude.{ℕ, ◌≡◌, ◌<◌, ◌⊎◌, List, Some, length}
use Rattle.reg_process.specs.declared.faults.ProcessFault.TheVariants.{OutOfMemory}
use Rattle.reg_node.specs.LogHeads.{BeginsWith, BeginsWithNone}
use Rattle.reg_node.specs.LogTexts.{IsJournal, Journal}
use Rattle.reg_node.specs.Messages.{spaced}
use Rattle.reg_commands.specs.Lent.{filled}
use Rattle.reg_c.specs.declared.beginning.LogRow.{LogRow}
use Rattle.reg_c.specs.Beginning.{id_in}
use Rattle.reg_c.specs.Events.{refusal_code}
use Rattle.reg_c.specs.Fronts.{front_at}

-- the numbers of the row are those of the log
pub record SaysLog (j : Journal) (row : LogRow) : Type 0 where
  pub id : id_in row ≡ j.id
  pub front : front_at row.front ≡ Some j.front
  pub processes : row.processes ≡ j.shape.processes

-- the text begins with this log, and the row and the bytes say what its head says
pub record SaysHead (text : List ℕ) (row : LogRow) (bytes : List ℕ) : Type 0 where
  pub journal : Journal
  pub good : IsJournal journal
  pub begins : BeginsWith text journal
  pub says : SaysLog journal row
  pub names : bytes ≡ spaced journal.names

-- why no head is told: the text begins with none; or there was no memory
abbrev pub IsUntold : List ℕ → ℕ → Type 0
IsUntold text code = (0 < code) × ((code ≡ refusal_code OutOfMemory) ⊎ BeginsWithNone text)

-- the row says what the head says, the room holds the front of its names, and the length is theirs; or nothing has
-- changed
abbrev pub TellsHead : List ℕ → ℕ → LogRow → LogRow → List ℕ → List ℕ → ℕ → ℕ → Type 0
TellsHead text code row_old row_new old new old_length new_length =
    ((code ≡ 0)
    × ((bytes : List ℕ) × SaysHead text row_new bytes × (new ≡ filled bytes old) × (new_length ≡ length bytes)))
    ⊎ (IsUntold text code × (row_new ≡ row_old) × (new ≡ old) × (new_length ≡ old_length))
