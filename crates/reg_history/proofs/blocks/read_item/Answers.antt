use Rattle.std.proofs.Common.{None, Some, refl}
use Rattle.reg_history.specs.declared.report_faults.ReadWhy.TheVariants.{End}
use Rattle.reg_history.proofs.blocks.read_item.Goals as goal

pub returns-in_default-clause-why : goal.returns-in_default-clause-why
returns-in_default-clause-why g c = (End, None, c.at_line.ensures, c.in_default.ensures.line, refl)

pub returns-in-None-clause-why : goal.returns-in-None-clause-why
returns-in-None-clause-why g c = (
  c.why_unlisted.result,
  Some c.in-Some.line.now,
  c.at_line-in-None.ensures,
  (c.next.new.self.left, c.in-Some.ensures.line),
  record { none = λ x fits same. let bad = c.in-None.ensures.whole x fits same in absurd (cc); range = c.why_unlisted.ensures.range; form = c.why_unlisted.ensures.form },
)
