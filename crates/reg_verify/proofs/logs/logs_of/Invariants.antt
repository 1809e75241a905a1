use Rattle.std.proofs.Common.{map, take}
use Rattle.reg_verify.specs.Logs.{AreLogs}
use Rattle.reg_verify.proofs.logs.logs_of.Given as goal

-- the steps so far are in their logs
abbrev pub invariant-loop-step : goal.invariant-loop-step
invariant-loop-step g l = AreLogs l.processes (take l.step-index l.steps) (map (λ v. v.items) l.logs.items)
