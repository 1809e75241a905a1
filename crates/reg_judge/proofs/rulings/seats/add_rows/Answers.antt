use Rattle.std.proofs.Common.{ap, refl, ◌∙◌, subst, length, List}
use Rattle.reg_judge.specs.declared.rulings.rows.Row.{Row}
use Rattle.reg_judge.specs.Standing.{Stands}
use Rattle.reg_judge.proofs.Seating.{as_many, length_replicate, no_log, stands_first, stands_more, take_all}
use Rattle.reg_judge.proofs.rulings.seats.add_rows.Goals as goal

pub loop-row-init : goal.loop-row-init
loop-row-init g c = record {
  stands = stands_first c.args.naming c.args.processes c.args.rows.now c.in_ok-seats.seats.held.items c.args.history.now.entries c.in_ok-seats.ensures c.requires;
  log = no_log c.args.history.now c.requires;
  count = ap length c.in_ok-seats.ensures ∙ length_replicate c.args.processes _;
  shape = refl;
}

pub loop-row-preserved : goal.loop-row-preserved
loop-row-preserved g c = record {
  stands = stands_more c.args.naming c.args.processes c.args.rows.now c.loop-row.row-index _ c.loop-row.seats.held.items _ c.loop-row.history.entries _ c.loop-row-test.true c.loop-row.invariant.stands c.in_ok-add_row.ensures.more;
  log = c.in_ok-add_row.ensures.log c.loop-row.invariant.log;
  count = as_many c.args.naming _ c.loop-row.seats.held.items _ c.loop-row.history.entries _ c.in_ok-add_row.ensures.more ∙ c.loop-row.invariant.count;
  shape = c.add_row.ensures.shape ∙ c.loop-row.invariant.shape;
}

pub returns-clause-stands : goal.returns-clause-stands
returns-clause-stands g c =
    let P : List Row → Type 0 = λ l. Stands c.args.naming c.args.processes l c.loop-row.seats.held.items c.loop-row.history.entries in
    record {
      held = c.loop-row.seats.held.items;
      stands = subst P (take_all c.args.rows.now c.loop-row.row-index c.loop-row-test.false) c.loop-row.invariant.stands;
      places = c.loop-row.history.shape.processes;
      history = c.loop-row.invariant.log;
    }
