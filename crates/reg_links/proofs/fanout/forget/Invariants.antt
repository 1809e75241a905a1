use Rattle.std.proofs.Common.{◌≡◌, drop}
use Rattle.reg_links.proofs.fanout.forget.Given as goal

abbrev pub invariant-loop-i : goal.invariant-loop-i
invariant-loop-i g l = l.bodies.items ≡ drop l._i l.initial.bodies.items
