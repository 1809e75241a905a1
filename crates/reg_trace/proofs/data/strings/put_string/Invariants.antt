use Rattle.std.specs.Prelude.{flat_map}
use Rattle.reg_text.specs.Writing.{Puts}
use Rattle.reg_trace.specs.Strings.{char_text}
use Rattle.reg_trace.proofs.data.strings.put_string.Given as goal

-- the sink has the characters so far
abbrev pub invariant-loop-c : goal.invariant-loop-c
invariant-loop-c g l = Puts g.W.Write.contents l.initial.sink l.sink (flat_map char_text l.yielded)
