use Rattle.std.proofs.Common.{◌≡◌, ◌++◌, drop}
use Rattle.reg_trace.specs.Figures.{arrows_in, arrows_of}
use Rattle.reg_trace.proofs.figures.arrows.Given as goal

-- with those of the moments that are left, all arrows
abbrev pub invariant-loop-takes : goal.invariant-loop-takes
invariant-loop-takes g l = l.arrows.items ++ arrows_in l.moments l.takes (drop l.takes l.moments) ≡ arrows_of l.moments
