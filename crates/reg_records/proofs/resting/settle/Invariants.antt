use Rattle.std.proofs.Common.{◌≤◌, ◌+◌, length}
use Rattle.reg_records.specs.RestParts.{Nears}
use Rattle.reg_records.proofs.resting.settle.Given as goal

-- each round made an event
abbrev pub invariant-loop-round : goal.invariant-loop-round
invariant-loop-round g l = record {
  nears : Nears g.F.FrontEnd.start l.fn.world l.world;
  events : length l.fn.world.accepted + l._round ≤ length l.world.accepted;
}
