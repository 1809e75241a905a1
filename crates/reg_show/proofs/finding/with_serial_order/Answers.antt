use Rattle.std.proofs.Common.{List}
use Rattle.reg_base.specs.declared.memory.OpId.{OpId}
use Rattle.reg_checkers.specs.Orders.{IsSerial}
use Rattle.reg_outcomes.proofs.Pointing.{if_none}
use Rattle.reg_show.proofs.Reordering.{serial_here}
use Rattle.reg_show.proofs.finding.with_serial_order.Goals as goal

pub returns-in_default-clause-found : goal.returns-in_default-clause-found
returns-in_default-clause-found g c =
    let h = c.history.result.now in
    let none = if_none c.in_ok-ids.field-0 ((ids : List OpId) → ¬ IsSerial h.shape.registers h.entries ids) (λ v. IsSerial h.shape.registers h.entries v.items) c.in_default.not-Some c.in_ok-ids.ensures.found in
    λ ids serial. none ids (serial_here h.shape h.entries c.args.report c.history.ensures.shape c.history.ensures.entries ids serial)
