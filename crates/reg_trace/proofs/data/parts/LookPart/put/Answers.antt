use Rattle.std.proofs.Common.{ap, codes, ◌++◌}
use Rattle.reg_trace.proofs.LookedBehind.{◌▸◌, as_text}
use Rattle.reg_trace.specs.Json.{list_text}
use Rattle.reg_trace.specs.Parts.{kept_part, look_part, peer_part}
use Rattle.reg_trace.specs.Rows.{cast_row}
use Rattle.reg_trace.proofs.data.parts.LookPart.put.Goals as goal

pub returns : goal.returns
returns g c =
    let names = c.args.names.now in
    as_text (ap (look_part names) c.self.view_is)
    (as_text (ap (λ xs. codes "{\"peers\":" ++ list_text (peer_part names) xs) c.as_slice.ensures.value) c.put_list.ensures
    ▸ (as_text (ap (λ xs. codes ",\"held\":" ++ list_text (cast_row names) xs) c.as_slice-2.ensures.value) c.put_list-2.ensures
    ▸ (as_text (ap (λ xs. codes ",\"copy\":" ++ list_text (kept_part names) xs) c.as_slice-3.ensures.value) c.put_list-3.ensures
    ▸ (c.put_number.ensures ▸ (c.put.ensures ▸ (c.put_running.ensures ▸ c.put-2.ensures))))))
