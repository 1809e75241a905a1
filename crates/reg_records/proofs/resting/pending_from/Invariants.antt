use Rattle.std.proofs.Common.{◌≡◌, ◌≤◌, ◌<◌, ℕ}
use Rattle.reg_records.specs.RestParts.{pending_in}
use Rattle.reg_records.proofs.resting.pending_from.Given as goal

-- nothing is pending at the processes before
abbrev pub invariant-loop-process : goal.invariant-loop-process
invariant-loop-process g l = (k : ℕ) → l.first ≤ k → k < l.process → pending_in g.F.FrontEnd.start l.world k ≡ 0
