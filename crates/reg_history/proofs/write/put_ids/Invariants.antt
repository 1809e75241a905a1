use Rattle.std.proofs.Common.{take}
use Rattle.reg_text.specs.Writing.{Puts}
use Rattle.reg_text.specs.Lines.{lines_by}
use Rattle.reg_history.specs.IdLines.{id_text}
use Rattle.reg_history.proofs.write.put_ids.Given as goal

-- the sink has the lines so far
abbrev pub invariant-loop-id : goal.invariant-loop-id
invariant-loop-id g l = Puts g.W.Write.contents l.initial.sink l.sink (lines_by id_text (take l.id-index l.ids))
