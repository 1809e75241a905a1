use Rattle.std.proofs.Common.{take}
use Rattle.reg_text.specs.Words.{names_text}
use Rattle.reg_text.specs.Writing.{Puts}
use Rattle.reg_inputs.proofs.schedule_text.put_names.Given as goal

-- the sink has the names so far
abbrev pub invariant-loop-place : goal.invariant-loop-place
invariant-loop-place g l = Puts g.W.Write.contents l.initial.sink l.sink (names_text (take l.place l.names))
