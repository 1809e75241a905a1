use Rattle.std.proofs.Common.{take}
use Rattle.reg_text.specs.Writing.{Puts}
use Rattle.reg_text.specs.Lines.{lines_by}
use Rattle.reg_history.proofs.write.put_names.Given as goal

-- the sink has the names so far
abbrev pub invariant-loop-place : goal.invariant-loop-place
invariant-loop-place g l =
    Puts g.W.Write.contents l.initial.sink l.sink (lines_by (λ name. name) (take l.place l.names))
