use Rattle.std.proofs.Common.{◌≡◌, replicate}
use Rattle.reg_world.specs.Sharing.{no_items}
use Rattle.reg_world.proofs.strips.new_lines.Given as goal

abbrev pub invariant-loop-i : goal.invariant-loop-i
invariant-loop-i g l = l.lines.items ≡ replicate l._i no_items
