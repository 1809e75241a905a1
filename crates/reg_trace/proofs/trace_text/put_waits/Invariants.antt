use Rattle.std.proofs.Common.{take}
use Rattle.reg_text.specs.Writing.{Puts}
use Rattle.reg_text.specs.Lines.{lines_by}
use Rattle.reg_trace.specs.Traces.{holds_line}
use Rattle.reg_trace.proofs.trace_text.put_waits.Given as goal

-- the sink has the lines so far
abbrev pub invariant-loop-wait : goal.invariant-loop-wait
invariant-loop-wait g l =
    Puts g.W.Write.contents l.initial.sink l.sink (lines_by holds_line (take l.wait-index l.waits))
