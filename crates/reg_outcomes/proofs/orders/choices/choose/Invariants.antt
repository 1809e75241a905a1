use Rattle.std.proofs.Common.{MatchOption}
use Rattle.reg_outcomes.specs.Layers.{stage_of}
use Rattle.reg_outcomes.specs.Walking.{IsChoice, IsPast}
use Rattle.reg_outcomes.proofs.orders.choices.choose.Given as goal

-- the best choice so far, if there is any
abbrev pub invariant-loop-process : goal.invariant-loop-process
invariant-loop-process g l = MatchOption l.best (IsPast l.finder.kind l.finder.entries l.tried (stage_of l.stage) l.process) (IsChoice l.finder.kind l.finder.shape.processes l.finder.shape.registers l.finder.entries l.tried (stage_of l.stage))
