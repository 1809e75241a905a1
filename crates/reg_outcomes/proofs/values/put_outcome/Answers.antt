use Rattle.reg_outcomes.specs.AllText.{told_text}
use Rattle.reg_outcomes.proofs.Writing.{puts_next}
use Rattle.reg_outcomes.proofs.values.put_outcome.Goals as goal

pub loop-told-preserved : goal.loop-told-preserved
loop-told-preserved g c =
    puts_next g.W.Write.contents c.args.sink.now c.loop-told.sink c.put_told.new.sink told_text c.args.outcome.now c.loop-told.told-index _ c.loop-told-test.true c.loop-told.invariant c.put_told.ensures
