use Rattle.std.proofs.Common.{◌≡◌, ◌≤◌, length}
use Rattle.reg_workload.specs.FairParts.{GoesFairly}
use Rattle.reg_workload.specs.Rounds.{rounds}
use Rattle.reg_workload.proofs.fair.play_rounds.Given as goal

-- each round made an event
abbrev pub invariant-loop-round : goal.invariant-loop-round
invariant-loop-round g l = record {
  value : l.player ≡ rounds g.F.FrontEnd.start l.fn.budget l._round l.initial.player;
  goes : GoesFairly g.F.FrontEnd.start l.fn.budget l.initial.player l.player;
  events : l._round ≤ length l.player.made.accepted;
}
