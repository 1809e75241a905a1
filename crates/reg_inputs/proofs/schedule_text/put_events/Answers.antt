use Rattle.reg_inputs.specs.Schedules.{event_text}
use Rattle.reg_text.proofs.Lining.{puts_line}
use Rattle.reg_inputs.proofs.schedule_text.put_events.Goals as goal

pub loop-event-preserved : goal.loop-event-preserved
loop-event-preserved g c =
    puts_line g.W.Write.contents c.args.sink.now c.loop-event.sink c.put_event_line.new.sink (event_text c.args.names.now) c.args.events.now c.loop-event.event-index _ c.loop-event-test.true c.loop-event.invariant c.put_event_line.ensures
