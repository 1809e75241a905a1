use Rattle.std.proofs.Common.{map, take}
use Rattle.reg_text.specs.Ops.{op_text}
use Rattle.reg_text.specs.Writing.{Puts}
use Rattle.reg_commands.specs.Layout.{joined, quoted}
use Rattle.reg_commands.proofs.layout.laying.put_script_joined.Given as goal

-- the items so far
abbrev pub invariant-loop-place : goal.invariant-loop-place
invariant-loop-place g l = Puts g.W.Write.contents l.initial.sink l.sink (joined (map (λ op. quoted (op_text l.names op)) (take l.place l.ops)))
