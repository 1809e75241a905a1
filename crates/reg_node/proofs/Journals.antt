-- Logs and their lines.
use Rattle.std.proofs.Common.{ℕ, ◌≡◌, ◌≢◌, ◌<◌, ◌^◌, List, [], ◌∷◌, ◌++◌, length, map, codes, refl, sym, ap, ◌∙◌, subst}
use Rattle.std.proofs.Common.{arith, append-nil}
use Rattle.std.specs.Fmt.{decimal}
use Rattle.std.proofs.lemmas.List.{map-append}
use Rattle.reg_records.specs.declared.entries.LogEntry.{LogEntry}
use Rattle.reg_text.specs.Lines.{lines_of, text_of}
use Rattle.reg_text.specs.Parts.{Lacks}
use Rattle.reg_text.proofs.Joining.{joined, number}
use Rattle.reg_text.proofs.Split.{AllLack, lines_text, none_left}
use Rattle.reg_node.specs.declared.transcripts.logs.LogFault.{LogFault}
use Rattle.reg_node.specs.declared.transcripts.logs.LogFault.TheVariants.{Damaged, Foreign, Line, NoProcess}
use Rattle.reg_node.specs.declared.transcripts.logs.LogFault.TheVariants.{OutOfMemory}
use Rattle.reg_node.specs.declared.transcripts.logs.LogId.{LogId}
use Rattle.reg_node.specs.Headless.{first_lines}
use Rattle.reg_node.specs.LogFaults.{IsLogFault}
use Rattle.reg_node.specs.RecordLines.{account_lines, head_lines, recorded_text}
use Rattle.reg_node.specs.LogTexts.{IsJournal, Journal, SpellsLog, account_of, entry_line, grown_by, id_lines, log_crc}
use Rattle.reg_node.specs.LogTexts.{log_lines, log_text, recorded_by}
use Rattle.reg_node.specs.Seals.{AreLines, IsTorn, crc_after, crc_behind, first_crc, sealed}
use Rattle.reg_node.specs.Unsealing.{IsUnsealed}
use Rattle.reg_node.proofs.Sealed.{crc_more, sealed_more, unique}
use Rattle.reg_node.proofs.Written.{lines_lack}

are : (ls : List (List ℕ)) → AllLack ls → AreLines ls
are [] h = tt
are (l ∷ ls) h = (h.0, are ls h.1)

lack : (ls : List (List ℕ)) → AreLines ls → AllLack ls
lack [] h = tt
lack (l ∷ ls) h = (h.0, lack ls h.1)

counted : (words : List ℕ) (n : ℕ) → Lacks 10 words → n < 2 ^ 64 → Lacks 10 (words ++ decimal n)
counted words n h small = joined 10 words (decimal n) h (number n small)

-- no line feed stands in the first lines of a log
pub are_first : (id : LogId) → id.cluster < 2 ^ 64 → id.process < 2 ^ 64 → id.chapter < 2 ^ 64
    → AreLines (first_lines id)
are_first id cluster process chapter =
    (refl, (counted (codes "cluster ") id.cluster refl cluster, (counted (codes "process ") id.process refl process, (counted (codes "chapter ") id.chapter refl chapter, tt))))

pub are_lines : (j : Journal) → IsJournal j → AreLines (log_lines j)
are_lines j good = (
  refl,
  (
    counted (codes "cluster ") j.id.cluster refl good.cluster,
    (
      counted (codes "process ") j.id.process refl (let l = good.process in let few = good.account.processes in omega (arith, l, few)),
      (counted (codes "chapter ") j.id.chapter refl good.chapter, (counted (codes "begun ") j.id.begun refl good.begun, are (account_lines (account_of j)) (lines_lack (account_of j) good.account))),
    ),
  ),
)

lines_grow : (j : Journal) (e : LogEntry)
    → log_lines (grown_by j e) ≡ log_lines j ++ recorded_text j.names (recorded_by j.id.process e) ∷ []
lines_grow j e =
    ap (λ steps. id_lines j.id (head_lines j.front j.shape.processes j.names (map (recorded_text j.names) steps))) (map-append (recorded_by j.id.process) j.entries (e ∷ []))
    ∙ ap (λ lines. id_lines j.id (head_lines j.front j.shape.processes j.names lines)) (map-append (recorded_text j.names) (map (recorded_by j.id.process) j.entries) (recorded_by j.id.process e ∷ []))

pub text_grows : (j : Journal) (e : LogEntry) → log_text (grown_by j e) ≡ log_text j ++ entry_line j e
text_grows j e = ap (sealed first_crc) (lines_grow j e) ∙ sealed_more first_crc (log_lines j) (recorded_text j.names (recorded_by j.id.process e))

pub crc_grows : (j : Journal) (e : LogEntry)
    → log_crc (grown_by j e) ≡ crc_behind (log_crc j) (recorded_text j.names (recorded_by j.id.process e))
crc_grows j e = ap (crc_after first_crc) (lines_grow j e) ∙ crc_more first_crc (log_lines j) (recorded_text j.names (recorded_by j.id.process e))

text_lines : (ls : List (List ℕ)) → AreLines ls → lines_of (text_of ls) ≡ ls
text_lines ls h = ap lines_of (sym (append-nil (text_of ls))) ∙ (lines_text ls [] (lack ls h) ∙ (ap (λ l. ls ++ l) none_left ∙ append-nil ls))

module _ (bytes text : List ℕ) (crc whole : ℕ) (u : IsUnsealed bytes text crc whole) where
  found : lines_of text ≡ u.lines
  found = ap lines_of u.text_is ∙ text_lines u.lines u.are

  -- the lines that were found are those of a log, which the bytes spell
  pub spelled : (j : Journal) → lines_of text ≡ log_lines j
      → (tail : List ℕ) × SpellsLog bytes j tail × (whole ≡ length (log_text j)) × (crc ≡ log_crc j)
  spelled j is =
      let same : u.lines ≡ log_lines j = sym found ∙ is in
      let behind : crc ≡ log_crc j = u.crc_is ∙ ap (crc_after first_crc) same in (
        u.tail,
        record { all = u.read ∙ ap (λ ls. sealed first_crc ls ++ u.tail) same; torn = subst (λ (c : ℕ). IsTorn c u.tail) behind u.torn },
        u.whole_is ∙ ap (λ ls. length (sealed first_crc ls)) same,
        behind,
      )

  -- where the bytes spell a log, its lines were found
  pub lines_are : (j : Journal) (tail : List ℕ) → IsJournal j → SpellsLog bytes j tail → lines_of text ≡ log_lines j
  lines_are j tail good s =
      found ∙ (unique first_crc u.lines (log_lines j) u.tail tail u.are (are_lines j good) (sym u.read ∙ s.all) (subst (λ (c : ℕ). IsTorn c u.tail) u.crc_is u.torn) s.torn).0

  -- why none is read
  pub no_log : (durable : ℕ) (left : List (List ℕ)) → left ≡ lines_of text → (f : LogFault)
      → ((j : Journal) → IsJournal j → left ≡ log_lines j → f ≡ OutOfMemory) → ((place : ℕ) → f ≢ Damaged place)
      → IsLogFault bytes durable f
  no_log durable left is (Line n why) wrong kind = λ j tail good s. let e : Line n why ≡ OutOfMemory = wrong j good (is ∙ lines_are j tail good s) in absurd (cc)
  no_log durable left is NoProcess wrong kind = λ j tail good s. let e : NoProcess ≡ OutOfMemory = wrong j good (is ∙ lines_are j tail good s) in absurd (cc)
  no_log durable left is (Foreign place) wrong kind = λ j tail good s. let e : Foreign place ≡ OutOfMemory = wrong j good (is ∙ lines_are j tail good s) in absurd (cc)
  no_log durable left is (Damaged place) wrong kind = absurd (kind place refl)
  no_log durable left is OutOfMemory wrong kind = tt
