use Rattle.std.proofs.Common.{map, take}
use Rattle.reg_text.specs.Writing.{Puts}
use Rattle.reg_trace.specs.Json.{joined, quoted}
use Rattle.reg_trace.proofs.data.text.put_names.Given as goal

-- the sink has the names so far
abbrev pub invariant-loop-place : goal.invariant-loop-place
invariant-loop-place g l = Puts g.W.Write.contents l.initial.sink l.sink (joined (map quoted (take l.place l.names)))
