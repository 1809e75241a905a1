-- The texts of a report. To be believed: promises speak of them.
use Rattle.std.specs.Prelude.{ℕ, ◌≡◌, ◌≢◌, ◌<◌, ◌≤◌, ◌&&◌, nat_lt, nat_le, Bool, true, ◌⊎◌, List, [], ◌∷◌, ◌++◌, length}
use Rattle.std.specs.Prelude.{codes, Option, None, Some}
use Rattle.std.specs.List.{list_all}
use Rattle.std.specs.Fmt.{decimal}
use Rattle.reg_base.specs.declared.memory.OpId.{OpId}
use Rattle.reg_base.specs.Shape.{Extent}
use Rattle.reg_base.specs.Names.{names_fault}
use Rattle.reg_text.specs.Words.{names_text, is_front_letter}
use Rattle.reg_text.specs.Lines.{AllFit, text_of}
use Rattle.reg_checkers.specs.declared.entries.Entry.{Entry}
use Rattle.reg_checkers.specs.declared.entries.Point.{Point}
use Rattle.reg_history.specs.declared.report_faults.ReportFault.{ReportFault}
use Rattle.reg_history.specs.declared.report_faults.ReportFault.TheVariants.{Front, Names, Range}
use Rattle.reg_history.specs.declared.versions.Version.{Version}
use Rattle.reg_history.specs.declared.versions.Version.TheVariants.{One, Two, Three}
use Rattle.reg_history.specs.Versions.{most_processes, most_registers, version_line, version_for}
use Rattle.reg_history.specs.declared.report_limits.TheConstants.{MOST_ENTRIES, MOST_IDS, LONGEST_FRONT}
use Rattle.reg_checkers.specs.History.{IsHistory}
use Rattle.reg_history.specs.EntryLines.{entry_text, EntryFits}
use Rattle.reg_history.specs.IdLines.{id_text, IdFits, point_text, PointFits}
use Rattle.reg_history.specs.Counted.{counted_lines}

-- one word, not too long, of letters a to z or hyphens
abbrev pub is_front : List ℕ → Bool
is_front word = nat_lt 0 (length word) && (nat_le (length word) LONGEST_FRONT && list_all is_front_letter word)

-- what a report holds
pub record Contents : Type 0 where
  pub front : List ℕ
  pub shape : Extent
  pub names : List (List ℕ)
  pub entries : List Entry
  pub order : List OpId
  pub points : Option (List Point)

-- the names' count and a line for each
abbrev pub newer_registers_lines : List (List ℕ) → List (List ℕ) → List (List ℕ)
newer_registers_lines names rest = counted_lines (codes "registers ") (λ name. name) names rest

-- the names: all on one line, or their count and a line for each
abbrev pub registers_lines : Version → List (List ℕ) → List (List ℕ) → List (List ℕ)
registers_lines One names rest = (codes "registers" ++ names_text names) ∷ rest
registers_lines Two names rest = newer_registers_lines names rest
registers_lines Three names rest = newer_registers_lines names rest

-- the first lines after that of the version, in version 2 and later ones
abbrev pub newer_head_lines : List ℕ → ℕ → List (List ℕ) → List (List ℕ) → List (List ℕ)
newer_head_lines front processes names rest =
    (codes "front " ++ front) ∷ (codes "processes " ++ decimal processes) ∷ newer_registers_lines names rest

abbrev pub head_lines : Version → List ℕ → ℕ → List (List ℕ) → List (List ℕ) → List (List ℕ)
head_lines version front processes names rest =
    version_line version ∷ (codes "front " ++ front) ∷ (codes "processes " ++ decimal processes)
    ∷ registers_lines version names rest

abbrev pub tail_lines : Option (List Point) → List (List ℕ)
tail_lines None = codes "end" ∷ []
tail_lines (Some points) = counted_lines (codes "points ") point_text points (codes "end" ∷ [])

-- the lines of a report in a version
abbrev pub lines_in : Version → Contents → List (List ℕ)
lines_in version r =
    head_lines version r.front r.shape.processes r.names
    (counted_lines (codes "history ") (entry_text r.names) r.entries
    (counted_lines (codes "order ") id_text r.order
    (tail_lines r.points)))

abbrev pub text_in : Version → Contents → List ℕ
text_in version r = text_of (lines_in version r)

-- the text of a report, as it is written
abbrev pub report_text : Contents → List ℕ
report_text r = text_in (version_for r.entries) r

-- the text, or the text without its last line feed
abbrev pub IsTextOf : List ℕ → List ℕ → Type 0
IsTextOf text whole = (text ≡ whole) ⊎ (text ++ 10 ∷ [] ≡ whole)

abbrev pub PointsFit : Version → Option (List Point) → Type 0
PointsFit version None = Unit {0}
PointsFit version (Some points) = AllFit (λ _ p. PointFits version p) points × (length points ≤ MOST_IDS)

-- ids, points and lengths are within the limits of a report of this version
pub record InRange (version : Version) (entries : List Entry) (order : List OpId)
    (points : Option (List Point)) : Type 0 where
  pub few_entries : length entries ≤ MOST_ENTRIES
  pub ids : AllFit (λ _ id. IdFits version id) order
  pub few_ids : length order ≤ MOST_IDS
  pub points_fit : PointsFit version points

-- within the limits of a report of this version
pub record IsReportIn (version : Version) (r : Contents) : Type 0 where
  pub front : is_front r.front ≡ true
  pub names : names_fault r.names ≡ None
  pub few_names : length r.names ≤ most_registers version
  pub some_process : 0 < r.shape.processes
  pub processes : r.shape.processes ≤ most_processes version
  pub registers : r.shape.registers ≡ length r.names
  pub history : IsHistory r.shape.processes r.shape.registers r.entries
  pub entries : AllFit (λ _ e. EntryFits version r.names e) r.entries
  pub range : InRange version r.entries r.order r.points

-- within the limits of a report: those of version 3, which are those of version 2 too
abbrev pub IsReport : Contents → Type 0
IsReport r = IsReportIn Three r

-- the text is the report's in one of the versions, and the report is within its limits
abbrev pub SpellsReport : List ℕ → Contents → Type 0
SpellsReport text r = (version : Version) × IsReportIn version r × IsTextOf text (text_in version r)

-- why parts are no report: the first of the three that holds
abbrev pub IsReportFault : Contents → ReportFault → Type 0
IsReportFault r Front = is_front r.front ≢ true
IsReportFault r Names = (is_front r.front ≡ true) × (r.shape.registers ≢ length r.names)
IsReportFault r Range =
    (is_front r.front ≡ true) × (r.shape.registers ≡ length r.names) × (¬ InRange Three r.entries r.order r.points)
