use Rattle.std.proofs.Common.{◌≡◌, replicate}
use Rattle.reg_world.specs.Tallies.{no_calls}
use Rattle.reg_world.proofs.books.new_callers.Given as goal

abbrev pub invariant-loop-i : goal.invariant-loop-i
invariant-loop-i g l = l.callers.items ≡ replicate l._i no_calls
