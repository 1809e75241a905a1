use Rattle.std.proofs.Common.{◌≡◌, false}
use Rattle.reg_workload.specs.FairParts.{RoundPart, NoneMayCall}
use Rattle.reg_workload.specs.Rounds.{calls_in_round}
use Rattle.reg_workload.proofs.fair.call_each.Given as goal

abbrev pub invariant-loop-process : goal.invariant-loop-process
invariant-loop-process g l = record {
  value : l.player ≡ calls_in_round g.F.FrontEnd.start l.fn.budget l.process l.initial.player;
  part : RoundPart g.F.FrontEnd.start l.fn.budget l.initial.player l.player false (NoneMayCall g.F.FrontEnd.start l.player l.process);
}
