use Rattle.reg_verify.specs.Gathering.{NoneBefore}
use Rattle.reg_verify.proofs.gathering.find_log.Given as goal

-- none so far is of the process
abbrev pub invariant-loop-place : goal.invariant-loop-place
invariant-loop-place g l = NoneBefore l.logs l.place l.fn.process
