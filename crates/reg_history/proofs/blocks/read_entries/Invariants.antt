use Rattle.std.proofs.Common.{◌≡◌}
use Rattle.reg_text.specs.Reading.{GoesOn}
use Rattle.reg_text.proofs.Turns.{Taken}
use Rattle.reg_history.specs.EntryLines.{entry_text}
use Rattle.reg_history.specs.LineForms.{Follows}
use Rattle.reg_history.proofs.blocks.read_entries.Given as goal

-- as many were read as there were turns
abbrev pub invariant-loop-place : goal.invariant-loop-place
invariant-loop-place g l =
    (l.history.shape ≡ l.initial.history.shape) × Taken (entry_text l.names) (Follows l.version l.names l.initial.history.shape) l.count l.initial.lines.left l.lines.left l.history.entries l._place × GoesOn l.initial.lines l.lines
