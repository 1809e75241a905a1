use Rattle.std.proofs.Common.{ℕ, ◌≡◌, ◌∙◌, ap, sym, List, Result, Ok, Err, IfOk}
use Rattle.reg_history.specs.declared.report_faults.ReadFault.{ReadFault}
use Rattle.reg_history.specs.declared.versions.Version.{Version}
use Rattle.reg_text.specs.Lines.{lines_of}
use Rattle.reg_history.specs.Reports.{Contents, lines_in, IsReport, IsReportIn, SpellsReport}
use Rattle.reg_history.proofs.Lacking.{report_lack, report_ends, lines_with, text_with}
use Rattle.reg_history.proofs.Endings.{text_line}
use Rattle.reg_history.proofs.Older.{widened}
use Rattle.reg_history.proofs.reports.read_report.Goals as goal

abbrev pub Read : List (List ℕ) → Contents → Type 0
Read ls r = (version : Version) × IsReportIn version r × (ls ≡ lines_in version r)

told : (res : Result Contents ReadFault) (bs : List ℕ) (ls : List (List ℕ)) → ls ≡ lines_of bs
    → IfOk res (λ r. Read ls r) → IfOk res (λ r. SpellsReport bs r)
told (Ok r) bs ls e h = (h.0, h.1, text_with bs (lines_in h.0 r) (sym e ∙ h.2))
told (Err f) bs ls e h = tt

within : (res : Result Contents ReadFault) (ls : List (List ℕ)) → IfOk res (λ r. Read ls r) → IfOk res (λ r. IsReport r)
within (Ok r) ls h = widened h.0 r h.1
within (Err f) ls h = tt

pub returns-clause-read : goal.returns-clause-read
returns-clause-read g c = told c.read_lines.result c.args.text.now c.new-lines.result.left (c.new-lines.ensures.lines.0 ∙ ap lines_of c.as_bytes.ensures.value) c.read_lines.ensures.read

pub returns-clause-good : goal.returns-clause-good
returns-clause-good g c = within c.read_lines.result c.new-lines.result.left c.read_lines.ensures.read

pub returns-clause-whole : goal.returns-clause-whole
returns-clause-whole g c = λ r t.
    c.read_lines.ensures.whole t.0 r t.1 (c.new-lines.ensures.lines.0 ∙ ap lines_of c.as_bytes.ensures.value ∙ lines_with c.args.text.now (lines_in t.0 r) (report_lack t.0 r t.1) (report_ends t.0 r) t.2)

pub returns-clause-line : goal.returns-clause-line
returns-clause-line g c few =
    let start = c.new-lines.ensures in
    text_line c.args.text.now c.new-lines.result c.read_lines.result few (start.lines.0 ∙ ap lines_of c.as_bytes.ensures.value) (start.lines.1 ∙ ap lines_of c.as_bytes.ensures.value) start.number.0 start.number.1 c.read_lines.ensures.stopped
