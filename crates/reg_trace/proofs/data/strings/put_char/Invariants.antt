use Rattle.std.proofs.Common.{take}
use Rattle.std.specs.Prelude.{flat_map}
use Rattle.reg_text.specs.Writing.{Puts}
use Rattle.reg_trace.specs.Strings.{unit_text}
use Rattle.reg_trace.proofs.data.strings.put_char.Given as goal

-- the sink has the units so far
abbrev pub invariant-loop-unit : goal.invariant-loop-unit
invariant-loop-unit g l =
    Puts g.W.Write.contents l.initial.sink l.sink (flat_map unit_text (take l.unit-index l.unit-items))
