use Rattle.std.proofs.Common.{◌∷◌, ◌++◌, [], codes, sym, append_assoc}
use Rattle.std.specs.Fmt.{decimal}
use Rattle.reg_text.proofs.Sent.{puts_as, puts_four}
use Rattle.reg_inputs.specs.Schedules.{event_text}
use Rattle.reg_trace.proofs.trace_text.put_head.Goals as goal

pub returns : goal.returns
returns g c =
    let held = g.W.Write.contents in
    let number = decimal c.args.number in
    let event = event_text c.args.names.now c.args.event in
    puts_as held c.args.sink.now c.put-2.new.self (number ++ (codes " " ++ (event ++ 10 ∷ []))) ((number ++ (codes " " ++ event)) ++ 10 ∷ []) (sym (append_assoc number (codes " " ++ event) (10 ∷ [])))
    (puts_four held c.args.sink.now c.put_number.new.sink c.put.new.self c.put_event.new.sink c.put-2.new.self number (codes " ") event (10 ∷ []) c.put_number.ensures c.put.ensures c.put_event.ensures c.put-2.ensures)
