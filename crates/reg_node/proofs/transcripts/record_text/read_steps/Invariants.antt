use Rattle.reg_text.specs.Reading.{GoesOn}
use Rattle.reg_text.proofs.Turns.{Gathered}
use Rattle.reg_node.specs.RecordLines.{recorded_text, RecordedFits}
use Rattle.reg_node.proofs.transcripts.record_text.read_steps.Given as goal

-- as many were read as there were turns
abbrev pub invariant-loop-place : goal.invariant-loop-place
invariant-loop-place g l = record {
  gathered : Gathered (recorded_text l.names) (λ _ x. RecordedFits l.names x) l.initial.lines.left l.lines.left l.steps.items l._place;
  on : GoesOn l.initial.lines l.lines;
}
