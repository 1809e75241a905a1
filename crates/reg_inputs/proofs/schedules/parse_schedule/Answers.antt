use Rattle.std.proofs.Common.{ap, ◌∙◌}
use Rattle.reg_text.specs.Lines.{lines_of, kept}
use Rattle.reg_inputs.proofs.Plans.{text_line}
use Rattle.reg_inputs.proofs.schedules.parse_schedule.Goals as goal

pub returns-clause-line : goal.returns-clause-line
returns-clause-line g c few =
    let start = c.skipping-lines.ensures in
    text_line c.args.text.now c.skipping-lines.result c.read_plan.new.lines c.read_plan.result few
    (start.lines.0 ∙ ap (λ t. kept (lines_of t)) c.as_bytes.ensures.value) (start.lines.1 ∙ ap lines_of c.as_bytes.ensures.value) start.number.0 start.number.1 c.read_plan.ensures.stopped
