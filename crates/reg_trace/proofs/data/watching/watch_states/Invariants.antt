use Rattle.std.proofs.Common.{◌≡◌, ◌++◌, drop}
use Rattle.reg_world.proofs.code.Answering.{IsRunSoFar}
use Rattle.reg_trace.specs.Moments.{moments_from, moments_of}
use Rattle.reg_trace.specs.Looks.{looks_from, looks_of}
use Rattle.reg_trace.proofs.data.watching.watch_states.Given as goal

-- the events so far are made, and with those of the others these are all moments and all states
abbrev pub invariant-loop-at : goal.invariant-loop-at
invariant-loop-at g l = record {
  ran : IsRunSoFar g.F.FrontEnd.start l.fn.shape l.events l.at l.watched.world;
  told : l.watched.moments.items ++ moments_from g.F.FrontEnd.start l.watched.world (drop l.at l.events) ≡ moments_of g.F.FrontEnd.start l.fn.shape l.events;
  states : l.watched.looks.items ++ looks_from g.F.FrontEnd.start l.watched.world (drop l.at l.events) ≡ looks_of g.F.FrontEnd.start l.fn.shape l.events;
}
