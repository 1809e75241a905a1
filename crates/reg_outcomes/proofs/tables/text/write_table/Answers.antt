use Rattle.std.proofs.Common.{rules}
use Rattle.reg_outcomes.specs.TableText.{table_text}
use Rattle.reg_text.proofs.Sent.{went_out}
use Rattle.reg_outcomes.proofs.tables.text.write_table.Goals as goal

pub returns : goal.returns
returns g c =
    let told = c.args.outcomes.now in
    went_out g.W.Write.contents c.new-sink.result c.put_table.new.sink c.args.writer.now _ (table_text c.args.plays told.rows.items told.unfinished told.undrawn) c.finish.result c.new-sink.ensures.failed c.new-sink.ensures.now (search rules) c.put_table.ensures c.finish.ensures
