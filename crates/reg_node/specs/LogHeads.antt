-- The head of a log and its first entries, at the start of bytes. Promises cite it.
use Rattle.std.specs.Prelude.{ℕ, ◌≡◌, List, ◌++◌, take}
use Rattle.reg_node.specs.LogTexts.{IsJournal, Journal, begun_with, log_text}

-- the log as it was begun, which is what its head says
abbrev pub head_of : Journal → Journal
head_of j = begun_with j.id j.front j.shape j.names

-- the log with its first entries alone, so many
abbrev pub first_entries : Journal → ℕ → Journal
first_entries j count = record j { entries = take count j.entries }

-- the bytes begin with the text of the log, and go on anyhow
abbrev pub BeginsWith : List ℕ → Journal → Type 0
BeginsWith bytes j = (behind : List ℕ) × (bytes ≡ log_text j ++ behind)

-- they begin with the text of no log
abbrev pub BeginsWithNone : List ℕ → Type 0
BeginsWithNone bytes = (j : Journal) → IsJournal j → ¬ BeginsWith bytes j
