use Rattle.std.proofs.Common.{refl}
use Rattle.reg_checkers.proofs.Noting.{read_at}
use Rattle.reg_judge.proofs.Trying.{left_more}
use Rattle.reg_judge.proofs.possible.values_left.Goals as goal

pub loop-entry-preserved : goal.loop-entry-preserved
loop-entry-preserved g c = left_more c.args.rows.now c.args.entries.now c.args.since c.loop-entry.values.items c.add_value.new.values.items c.loop-entry.entry-index _ c.unwrap_or.result c.left_since.result (read_at c.args.entries.now c.loop-entry.entry-index _ _ refl c.loop-entry-test.true) c.unwrap_or.ensures c.left_since.ensures c.in_ok-add_value.ensures c.loop-entry.invariant
