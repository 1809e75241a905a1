use Rattle.reg_text.specs.Reading.{GoesOn}
use Rattle.reg_text.proofs.Turns.{Taken}
use Rattle.reg_history.proofs.blocks.read_block.Given as goal

-- as many were read as there were turns
abbrev pub invariant-loop-place : goal.invariant-loop-place
invariant-loop-place g l = Taken g.T.Listed.line_of (λ _ x. g.T.Listed.Fits l.version x) l.count l.initial.lines.left l.lines.left l.items.items l._place × GoesOn l.initial.lines l.lines
