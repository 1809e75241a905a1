use Rattle.std.proofs.Common.{◌≡◌, true}
use Rattle.reg_base.specs.Names.{is_name, texts}
use Rattle.reg_text.specs.Reading.{GoesOn}
use Rattle.reg_text.proofs.Turns.{Taken}
use Rattle.reg_history.proofs.name_lines.read_spelt.Given as goal

-- as many were read as there were turns
abbrev pub invariant-loop-place : goal.invariant-loop-place
invariant-loop-place g l = Taken (λ n. n) (λ _ n. is_name n ≡ true) l.count l.initial.lines.left l.lines.left (texts l.names.items) l._place × GoesOn l.initial.lines l.lines
