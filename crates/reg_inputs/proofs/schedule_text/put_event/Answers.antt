use Rattle.std.proofs.Common.{◌∷◌, ◌++◌, [], codes, ap, sym}
use Rattle.std.specs.Fmt.{decimal}
use Rattle.reg_text.specs.Ops.{op_text}
use Rattle.reg_text.proofs.Sent.{puts_as, puts_three}
use Rattle.reg_inputs.specs.Schedules.{event_text}
use Rattle.reg_inputs.proofs.schedule_text.put_event.Goals as goal

pub returns-in-Call : goal.returns-in-Call
returns-in-Call g c =
    let held = g.W.Write.contents in
    let names = c.args.names.now in
    let process = codes "call " ++ decimal c.in-Call.process in
    let op = op_text names c.in-Call.op in
    puts_as held c.args.sink.now c.put_op.new.sink (process ++ (32 ∷ op)) (event_text names c.args.event) (ap (event_text names) (sym c.in-Call.is))
    (puts_three held c.args.sink.now c.put_number.new.sink c.put.new.self c.put_op.new.sink process (32 ∷ []) op c.put_number.ensures c.put.ensures c.put_op.ensures)
