use Rattle.std.proofs.Common.{take}
use Rattle.reg_text.specs.Writing.{Puts}
use Rattle.reg_trace.specs.Traces.{trace_text}
use Rattle.reg_trace.proofs.trace_text.put_trace.Given as goal

-- the sink has the text of the events so far
abbrev pub invariant-loop-number : goal.invariant-loop-number
invariant-loop-number g l = Puts g.W.Write.contents l.initial.sink l.sink (trace_text l.names (take l.number l.moments))
