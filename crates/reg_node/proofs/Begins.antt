-- Logs at the start of bytes: their heads, and their first entries.
use Rattle.std.proofs.Common.{ℕ, ◌≡◌, ◌-◌, ◌≤◌, ◌⊎◌, inl, inr, List, [], ◌++◌, length, map, take, drop, refl, sym, ap}
use Rattle.std.proofs.Common.{◌∙◌, subst, arith, append_assoc, append-nil, lit≤}
use Rattle.std.proofs.lemmas.List.{length-map, length-take-le, map-append, take-append-drop}
use Rattle.reg_records.specs.declared.entries.LogEntry.{LogEntry}
use Rattle.reg_node.specs.declared.transcripts.logs.LogFault.{LogFault}
use Rattle.reg_node.specs.declared.transcripts.logs.LogFault.TheVariants.{Damaged, Foreign, Line, NoProcess}
use Rattle.reg_node.specs.declared.transcripts.logs.LogFault.TheVariants.{OutOfMemory}
use Rattle.reg_node.specs.LogFaults.{IsLogFault, IsNoLog}
use Rattle.reg_node.specs.LogHeads.{BeginsWith, BeginsWithNone, first_entries, head_of}
use Rattle.reg_node.specs.LogTexts.{IsJournal, Journal, SpellsLog, log_crc, log_lines, log_text, recorded_by}
use Rattle.reg_node.specs.RecordLines.{recorded_text}
use Rattle.reg_node.specs.Seals.{AreLines, crc_after, first_crc, sealed}
use Rattle.reg_node.proofs.Journals.{are_lines}
use Rattle.reg_node.proofs.Leading.{cut_off, sealed_both}
use Rattle.reg_node.proofs.Sealed.{torn_without_feed}

-- a head is a log with no entries
pub head_good : (j : Journal) → IsJournal j → IsJournal (head_of j)
head_good j good = record {
  account = record {
    names = good.account.names;
    some_process = good.account.some_process;
    processes = good.account.processes;
    registers = good.account.registers;
    steps = λ k e h. absurd (cc);
    few = lit≤ tt;
  };
  process = good.process;
  cluster = good.cluster;
  chapter = good.chapter;
  begun = good.begun;
}

-- the lines of entries
abbrev lines_of_entries : Journal → List LogEntry → List (List ℕ)
lines_of_entries j es = map (recorded_text j.names) (map (recorded_by j.id.process) es)

both_entries : (j : Journal) (es more : List LogEntry)
    → lines_of_entries j (es ++ more) ≡ lines_of_entries j es ++ lines_of_entries j more
both_entries j es more = ap (map (recorded_text j.names)) (map-append (recorded_by j.id.process) es more) ∙ map-append (recorded_text j.names) (map (recorded_by j.id.process) es) (map (recorded_by j.id.process) more)

parted : (j : Journal) (count : ℕ)
    → log_lines j
    ≡ log_lines (head_of j) ++ (lines_of_entries j (take count j.entries) ++ lines_of_entries j (drop count j.entries))
parted j count = ap (λ ls. log_lines (head_of j) ++ ls) (ap (lines_of_entries j) (sym (take-append-drop count j.entries)) ∙ both_entries j (take count j.entries) (drop count j.entries))

counted : (j : Journal) (count : ℕ) → count ≤ length j.entries
    → length (lines_of_entries j (take count j.entries)) ≡ count
counted j count few =
    length-map (map (recorded_by j.id.process) (take count j.entries)) (recorded_text j.names) ∙ length-map (take count j.entries) (recorded_by j.id.process) ∙ length-take-le count j.entries few

-- the head and so many entries are passed
module _ (bytes middle rest : List ℕ) (count : ℕ)
    (first : (c : ℕ) (lines : List (List ℕ)) (behind : List ℕ) → AreLines lines → length lines ≡ 9 → bytes ≡ sealed c lines ++ behind → middle ≡ behind)
    (second : (c : ℕ) (lines : List (List ℕ)) (behind : List ℕ) → AreLines lines → length lines ≡ count → middle ≡ sealed c lines ++ behind → rest ≡ behind) where
  pub first_are : (j : Journal) → IsJournal j → BeginsWith bytes j → count ≤ length j.entries
      → take (length bytes - length rest) bytes ≡ log_text (first_entries j count)
  first_are j good begins few =
      cut_off first_crc (log_lines (head_of j)) (lines_of_entries j (take count j.entries)) (lines_of_entries j (drop count j.entries)) bytes middle rest begins.0
      (subst AreLines (parted j count) (are_lines j good)) (begins.1 ∙ ap (λ ls. sealed first_crc ls ++ begins.0) (parted j count))
      (λ c lines behind are same is. first c lines behind are same is) (λ c lines behind are same is. second c lines behind are (same ∙ counted j count few) is)

-- a log begins with its head
pub head_begins : (bytes cut behind tail : List ℕ) (j : Journal) → bytes ≡ cut ++ behind → SpellsLog cut j tail
    → BeginsWith bytes (head_of j)
head_begins bytes cut behind tail j is s =
    let more = sealed (crc_after first_crc (log_lines (head_of j))) (lines_of_entries j j.entries) in (
      more ++ (tail ++ behind),
      is ∙ ap (λ t. t ++ behind) s.all ∙ append_assoc (log_text j) tail behind ∙ ap (λ t. t ++ (tail ++ behind)) (sealed_both first_crc (log_lines (head_of j)) (lines_of_entries j j.entries))
          ∙ append_assoc (log_text (head_of j)) more (tail ++ behind),
    )

-- the head alone is a log with no entries
pub head_spelled : (bytes cut : List ℕ)
    → ((j : Journal) → IsJournal j → BeginsWith bytes j → 0 ≤ length j.entries → cut ≡ log_text (first_entries j 0))
    → (j : Journal) → IsJournal j → BeginsWith bytes j → SpellsLog cut (head_of j) []
head_spelled bytes cut part j good begins = record { all = part j good begins (omega arith) ∙ sym (append-nil (log_text (head_of j))); torn = torn_without_feed (log_crc (head_of j)) [] refl }

module _ (bytes cut : List ℕ) (spelled : (j : Journal) → IsJournal j → BeginsWith bytes j → SpellsLog cut (head_of j) []) where
  none : IsNoLog cut → BeginsWithNone bytes
  none told = λ j good begins. told (head_of j) [] (head_good j good) (spelled j good begins)

  -- where the head is no log, the bytes begin with none
  pub none_begins : (f : LogFault) → IsLogFault cut 0 f → (f ≡ OutOfMemory) ⊎ BeginsWithNone bytes
  none_begins (Line n why) told = inr (none told)
  none_begins NoProcess told = inr (none told)
  none_begins (Foreign place) told = inr (none told)
  none_begins (Damaged place) damaged = let lost = damaged.lost in absurd (omega (arith, lost))
  none_begins OutOfMemory told = inl refl
