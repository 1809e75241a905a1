-- Why bytes are read as no log. Promises cite it.
use Rattle.std.specs.Prelude.{ℕ, ⊤, ◌≡◌, ◌<◌, List, length}
use Rattle.reg_text.specs.declared.faults.TextFault.{TextFault}
use Rattle.reg_text.specs.declared.faults.TextFault.TheVariants.{Line as TextLine, OutOfMemory as NoMemory}
use Rattle.reg_node.specs.declared.transcripts.logs.LogFault.{LogFault}
use Rattle.reg_node.specs.declared.transcripts.logs.LogFault.TheVariants.{Damaged, Foreign, Line, NoProcess}
use Rattle.reg_node.specs.declared.transcripts.logs.LogFault.TheVariants.{OutOfMemory}
use Rattle.reg_node.specs.LogTexts.{IsJournal, Journal, SpellsLog}

-- what is wrong with a line, as a log's fault
abbrev pub of_text : TextFault → LogFault
of_text (TextLine number why) = Line number why
of_text NoMemory = OutOfMemory

-- no log is spelled, whatever a crash left behind it
abbrev pub IsNoLog : List ℕ → Type 0
IsNoLog bytes = (j : Journal) (tail : List ℕ) → IsJournal j → ¬ SpellsLog bytes j tail

-- a log is spelled that has no entry at this place, which is one of those that were told to be durable
pub record IsDamaged (bytes : List ℕ) (durable place : ℕ) : Type 0 where
  pub journal : Journal
  pub tail : List ℕ
  pub good : IsJournal journal
  pub spelled : SpellsLog bytes journal tail
  pub ends : place ≡ length journal.entries
  pub lost : place < durable

-- why these bytes, of which so many entries were told to be durable, are read as no log
abbrev pub IsLogFault : List ℕ → ℕ → LogFault → Type 0
IsLogFault bytes durable (Line number why) = IsNoLog bytes
IsLogFault bytes durable NoProcess = IsNoLog bytes
IsLogFault bytes durable (Foreign place) = IsNoLog bytes
IsLogFault bytes durable (Damaged place) = IsDamaged bytes durable place
IsLogFault bytes durable OutOfMemory = ⊤
