use Rattle.std.proofs.Common.{ap, codes, ◌++◌}
use Rattle.reg_trace.specs.Moments.{Fact}
use Rattle.reg_trace.proofs.LookedBehind.{◌▸◌, as_text}
use Rattle.reg_trace.specs.Json.{list_text}
use Rattle.reg_trace.specs.Parts.{moment_part, sent_part}
use Rattle.reg_trace.specs.Rows.{delivery_row}
use Rattle.reg_trace.proofs.data.parts.put_moment.Goals as goal

pub returns : goal.returns
returns g c =
    let names = c.args.names.now in
    as_text (ap (λ (f : Fact). moment_part names (record { fact = f; note = c.args.note.now })) c.moment.view_is)
    (c.put.ensures ▸ (c.put_quoted_event.ensures ▸ (c.put_number.ensures ▸ (c.put-2.ensures ▸ (c.put_taken.ensures ▸ (c.put_number-2.ensures
    ▸ (as_text (ap (λ xs. codes ",\"delivered\":" ++ list_text (delivery_row names) xs) c.as_slice.ensures.value) c.put_list.ensures
    ▸ (c.put-3.ensures ▸ (c.put_reply.ensures
    ▸ (as_text (ap (λ xs. codes ",\"sent\":" ++ list_text (sent_part names) xs) c.as_slice-2.ensures.value) c.put_list-2.ensures
    ▸ (c.put-4.ensures ▸ (c.put_string.ensures ▸ c.put-5.ensures))))))))))))
