use Rattle.reg_outcomes.proofs.Putting.{puts_space}
use Rattle.reg_outcomes.proofs.tables.text.put_spaces.Goals as goal

pub loop-preserved : goal.loop-preserved
loop-preserved g c = puts_space g.W.Write.contents c.args.sink.now c.loop.sink c.put.new.self c.loop.counter c.loop.invariant c.put.ensures
