use Rattle.std.proofs.Common.{take}
use Rattle.reg_text.specs.Writing.{Puts}
use Rattle.reg_text.specs.Lines.{lines_by}
use Rattle.reg_trace.specs.Traces.{puts_line}
use Rattle.reg_trace.proofs.trace_text.put_all_sent.Given as goal

-- the sink has the lines so far
abbrev pub invariant-loop-sent : goal.invariant-loop-sent
invariant-loop-sent g l =
    Puts g.W.Write.contents l.initial.sink l.sink (lines_by (puts_line l.names l.from) (take l.sent-index l.all))
