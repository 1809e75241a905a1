use Rattle.std.proofs.Common.{map, take}
use Rattle.reg_text.specs.Writing.{Puts}
use Rattle.reg_trace.specs.Json.{joined}
use Rattle.reg_trace.proofs.data.json.put_list.Given as goal

-- the sink has the parts so far
abbrev pub invariant-loop-place : goal.invariant-loop-place
invariant-loop-place g l =
    Puts g.W.Write.contents l.initial.sink l.sink (joined (map (g.T.Part.part l.names) (take l.place l.parts)))
