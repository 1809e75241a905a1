use Rattle.std.proofs.Common.{refl}
use Rattle.std.specs.Fmt.{decimal}
use Rattle.reg_history.specs.declared.report_faults.ReadWhy.TheVariants.{Form}
use Rattle.reg_history.proofs.parts.points_count.Goals as goal

pub returns-in_default-clause-none : goal.returns-in_default-clause-none
returns-in_default-clause-none c = (
  Form,
  c.at_line.ensures,
  record { none = λ n some few same. absurd (c.in_default.ensures.whole (decimal n) same); range = λ digits numeral same. absurd (c.in_default.ensures.whole digits same); form = λ none. refl },
)
