use Rattle.std.proofs.Common.{◌≡◌, ◌++◌, drop}
use Rattle.reg_world.proofs.code.Answering.{IsRunSoFar}
use Rattle.reg_trace.specs.Moments.{moments_from, moments_of}
use Rattle.reg_trace.proofs.watching.watch_run.Given as goal

-- the events so far are made, and with the moments of the others these are all moments
abbrev pub invariant-loop-at : goal.invariant-loop-at
invariant-loop-at g l = record {
  ran : IsRunSoFar g.F.FrontEnd.start l.fn.shape l.events l.at l.world;
  told : l.moments.items ++ moments_from g.F.FrontEnd.start l.world (drop l.at l.events) ≡ moments_of g.F.FrontEnd.start l.fn.shape l.events;
}
