use Rattle.std.proofs.Common.{ap}
use Rattle.reg_trace.proofs.LookedBehind.{◌▸◌, as_text}
use Rattle.reg_trace.specs.Data.{head_text}
use Rattle.reg_trace.specs.Json.{quoted}
use Rattle.reg_trace.specs.Strings.{string_text}
use Rattle.reg_trace.proofs.data.text.put_head.Goals as goal

pub returns : goal.returns
returns g c =
    as_text (ap head_text c.run.view_is)
    (c.put.ensures ▸ (as_text (ap string_text c.title.ensures) c.put_string.ensures
    ▸ (c.put_number.ensures ▸ (c.put-2.ensures ▸ (c.put_names.ensures ▸ (c.put-3.ensures ▸ as_text (ap quoted c.name.ensures) c.put_quoted.ensures))))))
