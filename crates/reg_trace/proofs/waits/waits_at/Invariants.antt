use Rattle.std.proofs.Common.{◌≡◌, ◌++◌, drop}
use Rattle.reg_trace.specs.Waits.{waits_of}
use Rattle.reg_trace.proofs.waits.waits_at.Given as goal

-- with those of the casts that are left, all waits
abbrev pub invariant-loop-cast : goal.invariant-loop-cast
invariant-loop-cast g l = l.waits.items ++ waits_of l.processes l.process.state (drop l.cast-index l.cast-items) ≡ waits_of l.processes l.process.state l.process.state.held
