use Rattle.std.proofs.Common.{ap, codes, ◌++◌}
use Rattle.reg_trace.proofs.LookedBehind.{◌▸◌, as_text}
use Rattle.reg_trace.specs.Data.{order_text}
use Rattle.reg_trace.specs.Json.{lines_text}
use Rattle.reg_trace.specs.Rows.{first_row, id_row, read_row}
use Rattle.reg_trace.proofs.data.text.put_orders.Goals as goal

pub returns : goal.returns
returns g c =
    let names = c.run.inside.names in
    as_text (ap order_text c.run.view_is)
    (as_text (ap (λ xs. codes ",\n\"order\":" ++ lines_text (first_row names) xs) c.as_slice.ensures.value) c.put_lines.ensures
    ▸ (as_text (ap (λ xs. codes ",\n\"reads\":" ++ lines_text (read_row names) xs) c.as_slice-2.ensures.value) c.put_lines-2.ensures
    ▸ (as_text (ap (λ xs. codes ",\n\"witness\":" ++ lines_text (id_row names) xs) c.as_slice-3.ensures.value) c.put_lines-3.ensures
    ▸ (c.put.ensures ▸ (c.put_points.ensures ▸ c.put-2.ensures)))))
