use Rattle.std.proofs.Common.{Some, refl}
use Rattle.reg_history.specs.Stops.{IsFurther}
use Rattle.reg_history.specs.declared.report_faults.ReadWhy.TheVariants.{End}
use Rattle.reg_history.proofs.Stopping.{stops_now}
use Rattle.reg_history.proofs.parts.expect_none.Goals as goal

pub returns-in-Some-clause-stopped : goal.returns-in-Some-clause-stopped
returns-in-Some-clause-stopped c =
    stops_now IsFurther c.args.lines.now c.next.new.self c.at_line.result End (Some c.in-Some.field-0.now) c.at_line.ensures c.next.ensures.asked (c.next.new.self.left, c.in-Some.ensures.line) (refl, c.in-Some.field-0.now, refl, refl)
