use Rattle.std.proofs.Common.{List, refl, sym, ap, subst}
use Rattle.std.proofs.lemmas.Result.{err_from_is_err_and}
use Rattle.reg_base.specs.declared.memory.OpId.{OpId}
use Rattle.reg_base.specs.Shape.{Extent}
use Rattle.reg_checkers.specs.Orders.{IsSerial}
use Rattle.reg_outcomes.specs.Counts.{finished_play}
use Rattle.reg_outcomes.proofs.PlaysSeen.{late_fault, linear_by, told_by}
use Rattle.reg_outcomes.proofs.tables.plays.count_finished.Goals as goal

pub is_linearizable-requires : goal.is_linearizable-requires
is_linearizable-requires g c =
    let h = c.in_ok-history.history.now in
    subst (λ (ids : List OpId). IsSerial h.shape.registers h.entries ids) (sym c.as_slice.ensures.value) c.in_ok-history.ensures.serial

pub returns-clause-counted : goal.returns-clause-counted
returns-clause-counted g c =
    let h = c.in_ok-history.history.now in
    let w = c.args.world.now in
    let s = finished_play c.in_ok-outcome.outcome.items (record { seed = c.args.seed; events = c.events-events.result; linearizable = c.in_ok-linearizable.linearizable }) in (
      s,
      record {
        seeded = refl;
        finished = refl;
        events = c.events-events.ensures.value;
        outcome = told_by h.shape w h.entries c.in_ok-outcome.outcome.items c.in_ok-outcome.ensures (ap (λ (e : Extent). e.processes) c.in_ok-history.ensures.shape) c.in_ok-history.ensures.value;
        time = linear_by h.shape w h.entries c.in_ok-linearizable.linearizable (ap (λ (e : Extent). e.registers) c.in_ok-history.ensures.shape) c.in_ok-history.ensures.value c.in_ok-linearizable.ensures.found;
      },
      c.in_ok-add.ensures,
    )

pub returns-in_err-linearizable-clause-refused : goal.returns-in_err-linearizable-clause-refused
returns-in_err-linearizable-clause-refused g c =
    let p = err_from_is_err_and c.from_residual-in_err-linearizable.result c.from_residual-in_err-linearizable.ensures.1 in
    let h = c.in_ok-history.history.now in
    let fault = c.in_err-linearizable.field-0.0 in
    rw (p.1, p.2)
    (late_fault g.F.FrontEnd.start c.args.world.now h.shape h.entries c.in_ok-history.order.items c.as_slice.result.now fault c.in_ok-history.ensures.shape c.in_ok-history.ensures.value c.in_ok-history.ensures.keyed c.as_slice.ensures.value
    c.in_err-linearizable.ensures.refused c.in_err-linearizable.ensures.late)
