use Rattle.std.proofs.Common.{◌≡◌}
use Rattle.reg_outcomes.specs.Told.{outcome_of}
use Rattle.reg_outcomes.proofs.told.tell.Given as goal

-- what the processes so far were told
abbrev pub invariant-loop-process : goal.invariant-loop-process
invariant-loop-process g l = l.outcome.items ≡ outcome_of l.process l.entries
