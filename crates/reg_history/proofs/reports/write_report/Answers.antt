use Rattle.std.proofs.Common.{rules, refl}
use Rattle.reg_history.specs.Reports.{report_text}
use Rattle.reg_text.proofs.Sent.{all_out, part_out}
use Rattle.reg_history.proofs.reports.write_report.Goals as goal

pub returns-then-sink : goal.returns-then-sink
returns-then-sink g c =
    (refl, part_out g.W.Write.contents c.new-sink.result c.put_report.new.sink c.args.writer.now _ (report_text c.args.report.now) c.new-sink.ensures.failed c.new-sink.ensures.now c.if-sink.true (search rules) c.put_report.ensures)

pub returns : goal.returns
returns g c =
    all_out g.W.Write.contents c.new-sink.result c.put_report.new.sink c.args.writer.now _ (report_text c.args.report.now) c.new-sink.ensures.failed c.new-sink.ensures.now c.if-sink.false (search rules) c.put_report.ensures
