use Rattle.reg_history.specs.IdLines.{id_text}
use Rattle.reg_text.proofs.Lining.{puts_line}
use Rattle.reg_history.proofs.write.put_ids.Goals as goal

pub loop-id-preserved : goal.loop-id-preserved
loop-id-preserved g c =
    puts_line g.W.Write.contents c.args.sink.now c.loop-id.sink c.put_id.new.sink id_text c.args.ids.now c.loop-id.id-index _ c.loop-id-test.true c.loop-id.invariant c.put_id.ensures
