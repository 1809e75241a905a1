use Rattle.std.proofs.Common.{ℕ, ◌≡◌, ◌⊎◌, inl, inr, List, sym, subst, arith}
use Rattle.reg_history.specs.declared.report_faults.ReadFault.TheVariants.{Line, OutOfMemory}
use Rattle.reg_history.specs.declared.report_faults.ReadWhy.{ReadWhy}
use Rattle.reg_history.specs.Refusals.{RefusesReportLine}
use Rattle.reg_commands.proofs.checking.read_report_text.Goals as goal

-- the line that is told is the one that is refused
refused : (text : List ℕ) (line : ℕ) (why : ReadWhy)
    → (Line line why ≡ OutOfMemory)
    ⊎ ((number : ℕ) × (told : ReadWhy) × (Line line why ≡ Line number told) × RefusesReportLine number told text)
    → RefusesReportLine line why text
refused text line why (inl e) = absurd (cc)
refused text line why (inr (number, told, e, r)) =
    let a : line ≡ number = cc in
    let b : why ≡ told = cc in
    subst (λ (n : ℕ). RefusesReportLine n why text) (sym a) (subst (λ (w : ReadWhy). RefusesReportLine number w text) (sym b) r)

pub returns-in-Err-Line-clause-why : goal.returns-in-Err-Line-clause-why
returns-in-Err-Line-clause-why g c = (
  λ r spells.
      let none = (rw c.in-Err-Line.field-0-is at (c.in-Err-Line.ensures.whole r spells)) in
      absurd (cc),
  λ short. refused c.args.text.now c.in-Err-Line.line c.in-Err-Line.why (rw c.in-Err-Line.field-0-is at (c.in-Err-Line.ensures.line (omega (arith, short)))),
)
