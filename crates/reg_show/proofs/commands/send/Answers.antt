use Rattle.std.proofs.Common.{◌∙◌, ◌++◌, refl, sym}
use Rattle.reg_trace.specs.Traces.{title_line, trace_text}
use Rattle.reg_commands.proofs.Sending.{writing_failed, flush_failed}
use Rattle.reg_show.proofs.commands.send.Goals.{then-is_err-via-then-is_err, then-is_err-via-else-is_err+then-is_err-2}
use Rattle.reg_show.proofs.commands.send.Goals as goal

pub returns-then-is_err : goal.returns-then-is_err
returns-then-is_err g c =
    let held = g.W.Write.contents in
    let text = title_line c.args.title.now ++ trace_text c.args.names.now c.args.moments.now in
    let written = c.write_trace.result in
    elim c.then-is_err.branch [
      | then-is_err-via-then-is_err w ↦ (refl, writing_failed held written c.args.writer.now c.write_trace.new.writer c.then-is_err.writer text w.writer-is (sym c.is_err.ensures.value ∙ w.if-is_err.true) c.write_trace.ensures)
      | then-is_err-via-else-is_err+then-is_err-2 w ↦ (refl, flush_failed held written c.args.writer.now c.write_trace.new.writer w.flush.new.self c.then-is_err.writer text w.writer-is (sym c.is_err.ensures.value ∙ w.if-is_err.false) c.write_trace.ensures w.flush.ensures.bytes)
    ]
