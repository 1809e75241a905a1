use Rattle.std.proofs.Common.{◌≡◌, ◌+◌, length, take}
use Rattle.reg_verify.specs.Gathers.{joined}
use Rattle.reg_verify.proofs.log_merging.entry_at.Given as goal

-- the place is behind the steps of the logs so far
abbrev pub invariant-loop-log : goal.invariant-loop-log
invariant-loop-log g l = l.fn.place ≡ length (joined (take l.log l.logs)) + l.left
