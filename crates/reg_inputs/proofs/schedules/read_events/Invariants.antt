use Rattle.reg_text.specs.Reading.{GoesOn}
use Rattle.reg_text.proofs.Turns.{Gathered}
use Rattle.reg_inputs.specs.Schedules.{event_text, EventFits}
use Rattle.reg_inputs.proofs.schedules.read_events.Given as goal

-- as many were read as there were turns
abbrev pub invariant-loop-place : goal.invariant-loop-place
invariant-loop-place g l = record {
  gathered : Gathered (event_text l.names) (λ _ x. EventFits l.names x) l.initial.lines.left l.lines.left l.events.items l._place;
  on : GoesOn l.initial.lines l.lines;
}
