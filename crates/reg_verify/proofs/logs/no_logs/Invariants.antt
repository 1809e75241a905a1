use Rattle.std.proofs.Common.{[], map}
use Rattle.reg_verify.specs.Logs.{AreLogs}
use Rattle.reg_verify.proofs.logs.no_logs.Given as goal

-- an empty log for each process so far
abbrev pub invariant-loop-process : goal.invariant-loop-process
invariant-loop-process g l = AreLogs l._process [] (map (λ v. v.items) l.logs.items)
