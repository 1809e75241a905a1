use Rattle.reg_judge.proofs.Keying.{parts_all, parts_first, parts_more}
use Rattle.reg_judge.proofs.rulings.keys.parts_of.Goals as goal

pub loop-row-init : goal.loop-row-init
loop-row-init g c = parts_first c.args.keys c.args.rows.now _ c.in_ok-parts.ensures

pub loop-row-preserved : goal.loop-row-preserved
loop-row-preserved g c = parts_more c.args.keys c.loop-row.row-index c.args.rows.now _ c.loop-row.parts.items _ c.loop-row-test.true c.loop-row.invariant c.in_ok-add_row.ensures

pub returns : goal.returns
returns g c = parts_all c.args.keys c.loop-row.row-index c.args.rows.now c.loop-row.parts.items c.loop-row-test.false c.loop-row.invariant
