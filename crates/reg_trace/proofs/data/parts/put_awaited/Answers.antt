use Rattle.std.proofs.Common.{rules, Some, ap, sym}
use Rattle.reg_process.specs.Waits.{running_of}
use Rattle.reg_trace.proofs.LookedBehind.{◌▸◌, as_text}
use Rattle.reg_trace.specs.Parts.{running_part}
use Rattle.reg_trace.proofs.data.parts.put_awaited.Goals as goal

pub returns-in-Cast : goal.returns-in-Cast
returns-in-Cast g c =
    as_text (ap (λ a. running_part (Some (running_of a))) (sym c.in-Cast.is)) (c.put_number.ensures ▸ c.put.ensures)

pub returns-in-Settling : goal.returns-in-Settling
returns-in-Settling g c = search rules
