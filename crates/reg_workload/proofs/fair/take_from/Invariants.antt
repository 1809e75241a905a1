use Rattle.std.proofs.Common.{◌≡◌, false}
use Rattle.reg_workload.specs.FairParts.{RoundPart, AllBehindFrom}
use Rattle.reg_workload.specs.Rounds.{takes_from_in_round}
use Rattle.reg_workload.proofs.fair.take_from.Given as goal

abbrev pub invariant-loop-to : goal.invariant-loop-to
invariant-loop-to g l = record {
  value : l.player ≡ takes_from_in_round g.F.FrontEnd.start l.fn.budget l.fn.from l.to l.initial.player;
  part : RoundPart g.F.FrontEnd.start l.fn.budget l.initial.player l.player false (AllBehindFrom g.F.FrontEnd.start l.player l.fn.from l.to);
}
