use Rattle.std.proofs.Common.{[], ◌∷◌, ◌++◌, ◌∙◌, ap, subst, option_map, string_bytes}
use Rattle.reg_text.specs.Writing.{Puts}
use Rattle.reg_base.specs.Shape.{Extent}
use Rattle.reg_history.specs.Reports.{Contents, report_text}
use Rattle.reg_history.proofs.Writing.{report_written, Parts, ArePartsOf}
use Rattle.reg_history.proofs.reports.put_report.Goals as goal

pub returns : goal.returns
returns g c =
    let r : Contents = record { front = string_bytes c.report.inside.front; shape = c.report.inside.history.shape; names = c.report.inside.names; entries = c.report.inside.history.entries; order = c.report.inside.order.items; points = option_map (λ v. v.items) c.report.inside.points } in
    let p : Parts = record { version = c.version_for-version.result; front = c.as_str.result.now; processes = c.processes-processes.result; entries = c.entries-entries.result.now; ids = c.as_slice-order.result.now } in
    let is : ArePartsOf r p = record {
      version_is = c.version_for-version.ensures;
      front_is = c.as_str.ensures.value;
      processes_is = c.processes-processes.ensures.value ∙ ap (λ (s : Extent). s.processes) c.shape.ensures;
      entries_is = c.entries-entries.ensures.value;
      ids_is = c.as_slice-order.ensures.value;
    } in
    let P : Contents → Type 0 = λ x. Puts g.W.Write.contents c.args.sink.now c.put_tail.new.sink (report_text x) in
    subst P c.report.view_is
    (report_written g.W.Write.contents r p is c.args.sink.now c.put_line.new.sink c.put_head.new.sink c.put_count.new.sink c.put_entries.new.sink c.put_count-2.new.sink c.put_ids.new.sink c.put_tail.new.sink
    (subst (λ l. Puts g.W.Write.contents c.args.sink.now c.put_line.new.sink (l ++ 10 ∷ [])) c.line.ensures c.put_line.ensures)
    c.put_head.ensures c.put_count.ensures c.put_entries.ensures c.put_count-2.ensures c.put_ids.ensures c.put_tail.ensures)
