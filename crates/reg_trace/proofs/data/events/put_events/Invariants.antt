use Rattle.std.proofs.Common.{map, take}
use Rattle.reg_text.specs.Writing.{Puts}
use Rattle.reg_trace.specs.Json.{joined}
use Rattle.reg_trace.specs.Noted.{noted}
use Rattle.reg_trace.specs.Parts.{moment_part}
use Rattle.reg_trace.proofs.Joined.{line_by}
use Rattle.reg_trace.proofs.data.events.put_events.Given as goal

-- the sink has the lines so far
abbrev pub invariant-loop-place : goal.invariant-loop-place
invariant-loop-place g l = Puts g.W.Write.contents l.initial.sink l.sink (joined (map (line_by (moment_part l.names)) (take l.place (noted l.moments l.notes.notes))))
