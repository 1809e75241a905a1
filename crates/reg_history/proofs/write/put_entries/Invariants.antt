use Rattle.std.proofs.Common.{take}
use Rattle.reg_text.specs.Writing.{Puts}
use Rattle.reg_text.specs.Lines.{lines_by}
use Rattle.reg_history.specs.EntryLines.{entry_text}
use Rattle.reg_history.proofs.write.put_entries.Given as goal

-- the sink has the lines so far
abbrev pub invariant-loop-entry : goal.invariant-loop-entry
invariant-loop-entry g l =
    Puts g.W.Write.contents l.initial.sink l.sink (lines_by (entry_text l.names) (take l.entry-index l.entries))
