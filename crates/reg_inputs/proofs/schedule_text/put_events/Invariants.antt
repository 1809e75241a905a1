use Rattle.std.proofs.Common.{take}
use Rattle.reg_text.specs.Writing.{Puts}
use Rattle.reg_text.specs.Lines.{lines_by}
use Rattle.reg_inputs.specs.Schedules.{event_text}
use Rattle.reg_inputs.proofs.schedule_text.put_events.Given as goal

-- the sink has the lines so far
abbrev pub invariant-loop-event : goal.invariant-loop-event
invariant-loop-event g l =
    Puts g.W.Write.contents l.initial.sink l.sink (lines_by (event_text l.names) (take l.event-index l.events))
