use Rattle.std.proofs.Common.{◌≡◌, ◌∙◌, refl, sym}
use Rattle.reg_history.specs.declared.report_faults.WriteFault.TheVariants.{Write as WriteFailed}
use Rattle.reg_history.specs.Reports.{report_text}
use Rattle.reg_commands.proofs.Sending.{writing_failed, flush_failed, told_part}
use Rattle.reg_commands.proofs.reporting.write_out.Goals.{then-is_err-via-then-is_err}
use Rattle.reg_commands.proofs.reporting.write_out.Goals.{then-is_err-via-else-is_err+then-is_err-2}
use Rattle.reg_commands.proofs.reporting.write_out.Goals as goal

pub returns-then-is_err : goal.returns-then-is_err
returns-then-is_err g c =
    let held = g.W.Write.contents in
    let text = report_text c.args.report.now in
    let written = c.write_report.result in
    let out = told_part (λ f. f ≡ WriteFailed) written (held c.args.writer.now) (held c.write_report.new.writer) text c.write_report.ensures in
    elim c.then-is_err.branch [
      | then-is_err-via-then-is_err w ↦ (refl, writing_failed held written c.args.writer.now c.write_report.new.writer c.then-is_err.writer text w.writer-is (sym c.is_err.ensures.value ∙ w.if-is_err.true) out)
      | then-is_err-via-else-is_err+then-is_err-2 w ↦ (refl, flush_failed held written c.args.writer.now c.write_report.new.writer w.flush.new.self c.then-is_err.writer text w.writer-is (sym c.is_err.ensures.value ∙ w.if-is_err.false) out w.flush.ensures.bytes)
    ]
