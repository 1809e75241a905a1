-- Reports in a row, as one text, and what is told of them. Promises cite it.
use Rattle.std.specs.Prelude.{ℕ, ⊤, ◌≡◌, ◌+◌, ◌<◌, ◌==◌, ◌&&◌, nat_eq, Bool, true, false, if◌then◌else◌, List, [], ◌∷◌}
use Rattle.std.specs.Prelude.{◌++◌, flat_map, length, take, codes}
use Rattle.std.specs.Fmt.{decimal}
use Rattle.std.specs.List.{AllZip, filter, starts_with}
use Rattle.std.specs.Str.{IsUtf8}
use Rattle.reg_base.specs.declared.limits.TheConstants.{LONGEST_INPUT}
use Rattle.reg_text.specs.Lines.{begins_with}
use Rattle.reg_text.specs.Ops.{op_text}
use Rattle.reg_checkers.specs.History.{IsAt}
use Rattle.reg_history.specs.Refusals.{RefusesReportLine}
use Rattle.reg_history.specs.Reports.{Contents, IsReport, SpellsReport}
use Rattle.reg_history.specs.declared.report_faults.ReadFault.{ReadFault}
use Rattle.reg_history.specs.declared.report_faults.ReadFault.TheVariants as reading
use Rattle.reg_history.specs.declared.report_faults.ReadWhy.{ReadWhy}
use Rattle.reg_commands.specs.Verdicts.{verdict_line}
use Rattle.reg_commands.specs.declared.faults.Fault.{Fault}
use Rattle.reg_commands.specs.declared.faults.Fault.TheVariants.{Unread, TooLong, NotText, Output, Line, Event}
use Rattle.reg_commands.specs.declared.faults.Fault.TheVariants.{Workload, OutOfMemory}
use Rattle.reg_commands.specs.declared.verdicts.Verdict.TheVariants.{No}
use Rattle.reg_verify.specs.declared.stories.breaches.Breach.{Breach}
use Rattle.reg_verify.specs.declared.stories.breaches.Breach.TheVariants.{Order, Points, Other, Write, Place}
use Rattle.reg_verify.specs.declared.stories.breaches.ChapterPart.{ChapterPart}
use Rattle.reg_verify.specs.declared.stories.breaches.ChapterPart.TheVariants.{Front, Processes, Registers}
use Rattle.reg_verify.specs.declared.stories.breaches.Ruling.{Ruling}
use Rattle.reg_verify.specs.declared.stories.breaches.Ruling.TheVariants.{Story, Broken}
use Rattle.reg_verify.specs.Stories.{IsRuling}

-- The text

-- how the first line of a report begins, and no other line of one
abbrev pub report_mark : List ℕ
report_mark = codes "awreg report "

-- the parts of a text, which is cut before each line that begins so: one at least
unfoldable pub parts_of : List ℕ → List (List ℕ)
parts_of [] = [] ∷ []
parts_of (b ∷ bytes) =
    if (b == 10) && starts_with nat_eq bytes report_mark then (b ∷ [])
    ∷ parts_of bytes else begins_with b (parts_of bytes)

-- the parts of the text are those of these reports, in order
abbrev pub SpellsReports : List ℕ → List Contents → Type 0
SpellsReports text reports = AllZip (λ part r. IsReport r × SpellsReport part r) (parts_of text) reports

-- how many line feeds a text has
abbrev pub line_feeds : List ℕ → ℕ
line_feeds bytes = length (filter (λ b. b == 10) bytes)

-- A part of the text is no report's: the parts before it are those of reports, and this line of the text, counted from
-- 1, is the first one in the part with which no report goes on.
pub record IsUnread (line : ℕ) (why : ReadWhy) (text : List ℕ) : Type 0 where
  pub place : ℕ
  pub part : List ℕ
  pub at : IsAt (parts_of text) place part
  pub before : (k : ℕ) (earlier : List ℕ) → k < place → IsAt (parts_of text) k earlier
      → (r : Contents) × SpellsReport earlier r
  pub number : ℕ
  pub line_is : line ≡ line_feeds (flat_map (λ p. p) (take place (parts_of text))) + number
  pub refused : RefusesReportLine number why part
  pub none : (r : Contents) → ¬ SpellsReport part r
  pub never : (reports : List Contents) → ¬ SpellsReports text reports

-- why a text is none of reports
abbrev pub IsUnreadText : List ℕ → ReadFault → Type 0
IsUnreadText text (reading.Line line why) = IsUnread line why text
IsUnreadText text reading.OutOfMemory = ⊤

-- what a fault says of the text
abbrev pub BlamesStory : Fault → List ℕ → Type 0
BlamesStory Unread text = ⊤
BlamesStory TooLong text = LONGEST_INPUT < length text
BlamesStory NotText text = ¬ (IsUtf8 text)
BlamesStory Output text = (reports : List Contents) × SpellsReports text reports
BlamesStory (Line line why) text = IsUnread line why text
BlamesStory (Event at fault) text = ⊥
BlamesStory (Workload fault) text = ⊥
BlamesStory OutOfMemory text = ⊤

-- The answer

abbrev pub part_text : ChapterPart → List ℕ
part_text Front = codes "another front end" ++ 10 ∷ []
part_text Processes = codes "another number of processes" ++ 10 ∷ []
part_text Registers = codes "other registers" ++ 10 ∷ []

-- the id of process 0 with this number
abbrev pub opener_text : ℕ → List ℕ
opener_text number = codes "p0 #" ++ decimal number

-- what is wrong with a report of registers with these names
abbrev pub breach_text : List (List ℕ) → Breach → List ℕ
breach_text names (Order reason) = verdict_line (codes "serial") (No reason)
breach_text names (Points reason) = verdict_line (codes "points") (No reason)
breach_text names (Other part) = part_text part
breach_text names (Write number op) =
    opener_text number
    ++ (codes " should be " ++ (op_text names op ++ (codes ", with which the chapter before ended" ++ 10 ∷ [])))
breach_text names (Place number) =
    opener_text number ++ ((codes " should be number " ++ decimal number) ++ (codes " of the order" ++ 10 ∷ []))

-- the line that is told of reports of registers with these names
abbrev pub ruling_text : List (List ℕ) → Ruling → List ℕ
ruling_text names (Story chapters) = (codes "one story of " ++ decimal chapters) ++ (codes " chapters" ++ 10 ∷ [])
ruling_text names (Broken chapter breach) =
    (codes "report " ++ decimal chapter) ++ (codes ": " ++ breach_text names breach)

abbrev pub is_story : Ruling → Bool
is_story (Story chapters) = true
is_story (Broken chapter breach) = false

-- What is to be said of reports was written, with the names of the first one's registers: `Wrote` says how a text was
-- written.
pub record TellsReports (agrees : Bool) (Wrote : List ℕ → Type 0) (reports : List Contents) : Type 0 where
  pub ruling : Ruling
  pub ruled : IsRuling reports ruling
  pub says : agrees ≡ is_story ruling
  pub first : Contents
  pub begins : IsAt reports 0 first
  pub written : Wrote (ruling_text first.names ruling)

-- The text is that of these reports and of no others, and what is to be said of them was written.
pub record TellsStory (agrees : Bool) (Wrote : List ℕ → Type 0) (text : List ℕ) : Type 0 where
  pub reports : List Contents
  pub read : SpellsReports text reports
  pub only : (others : List Contents) → SpellsReports text others → others ≡ reports
  pub told : TellsReports agrees Wrote reports
