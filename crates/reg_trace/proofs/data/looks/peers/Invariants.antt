use Rattle.std.proofs.Common.{◌≡◌}
use Rattle.reg_trace.specs.Looks.{peers_of}
use Rattle.reg_trace.proofs.data.looks.peers.Given as goal

-- those of the processes so far
abbrev pub invariant-loop-other : goal.invariant-loop-other
invariant-loop-other g l = l.peers.items ≡ peers_of l.process.state l.other
