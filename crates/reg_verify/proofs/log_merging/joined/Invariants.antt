use Rattle.std.proofs.Common.{◌≡◌, ◌≤◌, length, take}
use Rattle.reg_base.specs.declared.limits.TheConstants.{MOST_EVENTS}
use Rattle.reg_verify.specs.Gathers.{joined}
use Rattle.reg_verify.proofs.log_merging.joined.Given as goal

-- the steps of the logs so far
abbrev pub invariant-loop-at : goal.invariant-loop-at
invariant-loop-at g l = record {
  steps : l.steps.items ≡ joined (take l.at l.logs);
  few : length l.steps.items ≤ MOST_EVENTS;
}
