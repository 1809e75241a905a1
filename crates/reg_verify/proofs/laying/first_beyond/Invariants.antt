use Rattle.std.proofs.Common.{◌<◌, ℕ}
use Rattle.reg_checkers.specs.History.{IsAt}
use Rattle.reg_node.specs.declared.transcripts.recorded.Recorded.{Recorded}
use Rattle.reg_verify.proofs.laying.first_beyond.Given as goal

abbrev pub invariant-loop-place : goal.invariant-loop-place
invariant-loop-place l = (k : ℕ) (r : Recorded) → k < l.place → IsAt l.steps k r → r.process < l.fn.processes
