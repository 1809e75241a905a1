use Rattle.std.proofs.Common.{◌∷◌, []}
use Rattle.reg_text.proofs.Sent.{puts_two}
use Rattle.reg_inputs.specs.Schedules.{event_text}
use Rattle.reg_inputs.proofs.schedule_text.put_event_line.Goals as goal

pub returns : goal.returns
returns g c = puts_two g.W.Write.contents c.args.sink.now c.put_event.new.sink c.put.new.self (event_text c.args.names.now c.args.event) (10 ∷ []) c.put_event.ensures c.put.ensures
