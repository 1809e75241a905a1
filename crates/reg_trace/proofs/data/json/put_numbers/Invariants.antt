use Rattle.std.proofs.Common.{map, take}
use Rattle.std.specs.Fmt.{decimal}
use Rattle.reg_text.specs.Writing.{Puts}
use Rattle.reg_trace.specs.Json.{joined}
use Rattle.reg_trace.proofs.data.json.put_numbers.Given as goal

-- the sink has the numbers so far
abbrev pub invariant-loop-place : goal.invariant-loop-place
invariant-loop-place g l = Puts g.W.Write.contents l.initial.sink l.sink (joined (map decimal (take l.place l.numbers)))
