use Rattle.std.proofs.Common.{◌≡◌}
use Rattle.std.specs.Prelude.{slice_index}
use Rattle.reg_world.specs.Worlds.{run_in}
use Rattle.reg_trace.specs.Moments.{puts_since}
use Rattle.reg_trace.proofs.moments.sent_since.Given as goal

-- the frames for the processes so far
abbrev pub invariant-loop-to : goal.invariant-loop-to
invariant-loop-to g l = l.sent.items ≡ puts_since l.process (slice_index l.lengths) ((run_in g.F.FrontEnd.start l.world).nodes l.process).wire l.to
