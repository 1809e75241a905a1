use Rattle.std.proofs.Common.{ap, codes, ◌++◌}
use Rattle.reg_trace.proofs.LookedBehind.{◌▸◌, as_text}
use Rattle.reg_trace.specs.Data.{run_text}
use Rattle.reg_trace.specs.Json.{lines_text}
use Rattle.reg_trace.specs.Noted.{noted}
use Rattle.reg_trace.specs.Parts.{bar_part, look_part, moment_part}
use Rattle.reg_trace.specs.Rows.{arrow_row}
use Rattle.reg_trace.proofs.data.text.put_run.Goals as goal

pub returns : goal.returns
returns g c =
    let names = c.run.inside.names in
    as_text (ap run_text c.run.view_is)
    ((c.put.ensures ▸ as_text (ap (λ xs. lines_text (moment_part names) (noted xs c.run.inside.notes.notes)) c.as_slice.ensures.value) c.put_events.ensures)
    ▸ (as_text (ap (λ xs. codes ",\n\"states\":" ++ lines_text (look_part names) xs) c.as_slice-2.ensures.value) c.put_lines.ensures
    ▸ (as_text (ap (λ xs. codes ",\n\"arrows\":" ++ lines_text (arrow_row names) xs) c.as_slice-3.ensures.value) c.put_lines-2.ensures
    ▸ as_text (ap (λ xs. codes ",\n\"operations\":" ++ lines_text (bar_part names) xs) c.as_slice-4.ensures.value) c.put_lines-3.ensures)))
