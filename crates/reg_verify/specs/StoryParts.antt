-- The parts of a text of reports in a row, one by one. They carry a proof: no promise speaks of them.
use Rattle.std.specs.Prelude.{ℕ, suc, ⊤, ◌≡◌, ◌+◌, ◌==◌, ◌&&◌, nat_eq, Bool, List, drop, slice_index}
use Rattle.std.specs.List.{starts_with}
use Rattle.reg_history.specs.Refusals.{RefusesReportLine}
use Rattle.reg_history.specs.Reports.{Contents, IsReport, SpellsReport}
use Rattle.reg_history.specs.declared.report_faults.ReadFault.{ReadFault}
use Rattle.reg_history.specs.declared.report_faults.ReadFault.TheVariants.{Line, OutOfMemory}
use Rattle.reg_verify.specs.StoryTexts.{line_feeds, report_mark}

-- a line that begins as a report does stands behind this place
abbrev pub begins_behind : List ℕ → ℕ → Bool
begins_behind text place = (slice_index text place == 10) && starts_with nat_eq (drop (suc place) text) report_mark

-- the report is that of the part, and no other one is
abbrev pub IsReadAs : List ℕ → Contents → Type 0
IsReadAs part r = IsReport r × SpellsReport part r × ((s : Contents) → SpellsReport part s → s ≡ r)

-- why a part of a text, behind these bytes, is no report's
abbrev pub IsUnreadPart : List ℕ → List ℕ → ReadFault → Type 0
IsUnreadPart before part (Line line why) =
    (number : ℕ) × (line ≡ line_feeds before + number) × RefusesReportLine number why part
    × ((r : Contents) → ¬ SpellsReport part r)
IsUnreadPart before part OutOfMemory = ⊤
