use Rattle.std.proofs.Common.{◌≡◌, false}
use Rattle.reg_workload.specs.FairParts.{RoundPart, AllBehind}
use Rattle.reg_workload.specs.Rounds.{takes_in_round}
use Rattle.reg_workload.proofs.fair.take_each.Given as goal

abbrev pub invariant-loop-from : goal.invariant-loop-from
invariant-loop-from g l = record {
  value : l.player ≡ takes_in_round g.F.FrontEnd.start l.fn.budget l.from l.initial.player;
  part : RoundPart g.F.FrontEnd.start l.fn.budget l.initial.player l.player false (AllBehind g.F.FrontEnd.start l.player l.from);
}
