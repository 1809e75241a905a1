use Rattle.std.proofs.Common.{take, flat_map}
use Rattle.reg_text.specs.Lines.{text_of}
use Rattle.reg_text.specs.Writing.{Puts}
use Rattle.reg_trace.specs.Traces.{delivers_lines}
use Rattle.reg_trace.proofs.trace_text.put_deliveries.Given as goal

-- the sink has the lines so far
abbrev pub invariant-loop-delivery : goal.invariant-loop-delivery
invariant-loop-delivery g l = Puts g.W.Write.contents l.initial.sink l.sink (text_of (flat_map (delivers_lines l.names) (take l.delivery-index l.deliveries)))
