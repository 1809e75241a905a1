use Rattle.reg_history.specs.EntryLines.{entry_text}
use Rattle.reg_text.proofs.Lining.{puts_line}
use Rattle.reg_history.proofs.write.put_entries.Goals as goal

pub loop-entry-preserved : goal.loop-entry-preserved
loop-entry-preserved g c =
    puts_line g.W.Write.contents c.args.sink.now c.loop-entry.sink c.put_entry.new.sink (entry_text c.args.names.now) c.args.entries.now c.loop-entry.entry-index _ c.loop-entry-test.true c.loop-entry.invariant c.put_entry.ensures
