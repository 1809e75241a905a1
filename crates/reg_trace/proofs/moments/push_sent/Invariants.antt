use Rattle.std.proofs.Common.{◌≡◌, ◌++◌, drop}
use Rattle.reg_trace.specs.Moments.{placed}
use Rattle.reg_trace.proofs.moments.push_sent.Given as goal

-- with those that are left, all frames
abbrev pub invariant-loop-place : goal.invariant-loop-place
invariant-loop-place g l = l.sent.items ++ placed l.to l.place (drop l.place l.frames) ≡ l.initial.sent.items ++ placed l.to l.first (drop l.first l.frames)
