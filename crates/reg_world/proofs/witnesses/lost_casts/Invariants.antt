use Rattle.std.proofs.Common.{◌≡◌, ◌++◌, drop}
use Rattle.reg_world.specs.Witnesses.{lost_from}
use Rattle.reg_world.proofs.witnesses.lost_casts.Given as goal

abbrev pub invariant-loop-process : goal.invariant-loop-process
invariant-loop-process g l =
    l.lost.items ++ lost_from l.last l.process (drop l.process l.callers) ≡ lost_from l.last 0 l.callers
