use Rattle.reg_workload.specs.Listed.{may_take}
use Rattle.reg_workload.proofs.Bits.{IsFilled}
use Rattle.reg_workload.proofs.choices.takes_from.Given as goal

-- the receivers so far are looked at, or known
abbrev pub invariant-loop-to : goal.invariant-loop-to
invariant-loop-to g l =
    IsFilled l.player.made.processes l.to (may_take g.F.FrontEnd.start l.player l.fn.from) l.fn.known l.takes
