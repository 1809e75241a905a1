use Rattle.std.proofs.Common.{◌≡◌, take}
use Rattle.reg_verify.specs.Logs.{order_of}
use Rattle.reg_verify.proofs.logs.order_of.Given as goal

-- the processes so far
abbrev pub invariant-loop-step : goal.invariant-loop-step
invariant-loop-step g l = l.order.items ≡ order_of (take l.step-index l.steps)
