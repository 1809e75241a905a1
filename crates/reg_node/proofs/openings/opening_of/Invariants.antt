use Rattle.std.proofs.Common.{◌≡◌, take}
use Rattle.reg_node.specs.Openings.{opening_of}
use Rattle.reg_node.proofs.openings.opening_of.Given as goal

-- the writes of the values so far
abbrev pub invariant-loop-register : goal.invariant-loop-register
invariant-loop-register g l = l.writes.items ≡ opening_of (take l.register l.values)
