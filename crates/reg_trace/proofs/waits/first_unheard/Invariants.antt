use Rattle.std.proofs.Common.{◌≡◌}
use Rattle.reg_trace.specs.Waits.{first_unheard}
use Rattle.reg_trace.proofs.waits.first_unheard.Given as goal

-- the lowest of the processes so far
abbrev pub invariant-loop-other : goal.invariant-loop-other
invariant-loop-other g l = l.lowest ≡ first_unheard l.process.state l.stamp l.other
