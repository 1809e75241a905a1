use Rattle.std.proofs.Common.{ℕ, ◌≡◌, ◌+◌, ◌⊎◌, inl, inr, List, sym, ap, subst, arith}
use Rattle.reg_history.specs.declared.report_faults.ReadFault.TheVariants.{Line, OutOfMemory}
use Rattle.reg_history.specs.declared.report_faults.ReadWhy.{ReadWhy}
use Rattle.reg_history.specs.Refusals.{RefusesReportLine}
use Rattle.reg_verify.proofs.StoryCuts.{line_within}
use Rattle.reg_verify.proofs.stories.reading.read_behind.Goals as goal

-- the line that is told is the one that is refused
refused : (text : List ℕ) (line : ℕ) (why : ReadWhy)
    → (Line line why ≡ OutOfMemory)
    ⊎ ((number : ℕ) × (told : ReadWhy) × (Line line why ≡ Line number told) × RefusesReportLine number told text)
    → RefusesReportLine line why text
refused text line why (inl e) = absurd (cc)
refused text line why (inr (number, told, e, r)) =
    let a : line ≡ number = cc in
    let b : why ≡ told = cc in
    subst (λ (n : ℕ). RefusesReportLine n why text) (sym a) (subst (λ (w : ReadWhy). RefusesReportLine number w text) (sym b) r)

pub overflow_add-result : goal.overflow_add-result
overflow_add-result g c =
    let r = refused c.args.part.now c.in-Err-Line.line c.in-Err-Line.why (rw c.in-Err-Line.field-0-is at (c.in-Err-Line.ensures.line (omega arith))) in
    let few = line_within c.args.part.now c.in-Err-Line.line r.before r.next r.numbered in
    omega (arith, few, c.line_feeds.ensures.few, c.requires)

pub returns-in-Err-Line-clause-why : goal.returns-in-Err-Line-clause-why
returns-in-Err-Line-clause-why g c = (
  c.in-Err-Line.line,
  ap (λ (n : ℕ). n + c.in-Err-Line.line) c.line_feeds.ensures.counted,
  refused c.args.part.now c.in-Err-Line.line c.in-Err-Line.why (rw c.in-Err-Line.field-0-is at (c.in-Err-Line.ensures.line (omega arith))),
  λ r spells.
      let none = (rw c.in-Err-Line.field-0-is at (c.in-Err-Line.ensures.whole r spells)) in
      absurd (cc),
)

pub returns-in-Ok-clause-read : goal.returns-in-Ok-clause-read
returns-in-Ok-clause-read g c =
    (c.in-Ok.ensures.good, c.in-Ok.ensures.read, λ s spelled. sym (c.in-Ok.ensures.whole s spelled))
