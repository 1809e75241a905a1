use Rattle.std.proofs.Common.{ℕ, ◌<◌}
use Rattle.reg_verify.specs.Gathers.{HasLogOf}
use Rattle.reg_verify.proofs.gathering.check_all.Given as goal

-- the processes so far have logs
abbrev pub invariant-loop-process : goal.invariant-loop-process
invariant-loop-process g l = (p : ℕ) → p < l.process → HasLogOf p l.logs
