use Rattle.std.proofs.Common.{◌∙◌, refl, sym}
use Rattle.reg_outcomes.specs.TableText.{table_text}
use Rattle.reg_commands.proofs.Sending.{writing_failed, flush_failed}
use Rattle.reg_show.proofs.counting.send.Goals.{then-is_err-via-then-is_err, then-is_err-via-else-is_err+then-is_err-2}
use Rattle.reg_show.proofs.counting.send.Goals as goal

pub returns-then-is_err : goal.returns-then-is_err
returns-then-is_err g c =
    let held = g.W.Write.contents in
    let told = c.args.outcomes.now in
    let text = table_text c.args.plays told.rows.items told.unfinished told.undrawn in
    let written = c.write_table.result in
    elim c.then-is_err.branch [
      | then-is_err-via-then-is_err w ↦ (refl, writing_failed held written c.args.writer.now c.write_table.new.writer c.then-is_err.writer text w.writer-is (sym c.is_err.ensures.value ∙ w.if-is_err.true) c.write_table.ensures)
      | then-is_err-via-else-is_err+then-is_err-2 w ↦ (refl, flush_failed held written c.args.writer.now c.write_table.new.writer w.flush.new.self c.then-is_err.writer text w.writer-is (sym c.is_err.ensures.value ∙ w.if-is_err.false) c.write_table.ensures w.flush.ensures.bytes)
    ]
