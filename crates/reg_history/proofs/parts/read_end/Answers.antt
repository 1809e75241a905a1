use Rattle.std.proofs.Common.{codes, [], ◌∷◌}
use Rattle.reg_text.proofs.Numbered.{asked_on}
use Rattle.reg_history.specs.Stops.{IsFurther, IsWrongEnd}
use Rattle.reg_history.proofs.Endings.{end_fails, end_further}
use Rattle.reg_history.proofs.Stopping.{failure_as, failure_passed_on, fails_behind}
use Rattle.reg_history.proofs.parts.read_end.Goals as goal

pub returns-in_err-expect_line-clause-stopped : goal.returns-in_err-expect_line-clause-stopped
returns-in_err-expect_line-clause-stopped c =
    let told = c.in_err-expect_line.ensures in
    failure_passed_on c.from_residual.result _ _ c.from_residual.ensures.1 (end_fails c.args.lines.now c.expect_line.new.lines c.in_err-expect_line.field-0.0 told.fault.0 told.fault.1 told.asked told.end told.form told.whole)

pub returns-clause-stopped : goal.returns-clause-stopped
returns-clause-stopped c =
    let read = c.in_ok-expect_line.ensures in
    failure_as c.expect_none.result _ _
    (λ f failed. fails_behind IsWrongEnd IsFurther (codes "end" ∷ []) c.args.lines.now c.expect_line.new.lines f read.read (asked_on c.args.lines.now c.expect_line.new.lines _ c.expect_line.new.lines.left read.asked read.read) end_further failed)
    c.expect_none.ensures.stopped
