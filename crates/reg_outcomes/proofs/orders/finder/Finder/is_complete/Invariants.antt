use Rattle.std.proofs.Common.{ℕ, ◌<◌}
use Rattle.std.specs.Prelude.{slice_index}
use Rattle.reg_checkers.specs.History.{IsFinished}
use Rattle.reg_checkers.specs.Progress.{op_of}
use Rattle.reg_outcomes.proofs.orders.finder.Finder.is_complete.Given as goal

-- no process so far has an answer to its next operation
abbrev pub invariant-loop-process : goal.invariant-loop-process
invariant-loop-process g l = (p : ℕ) → p < l.process → ¬ IsFinished l.self.entries (op_of p (slice_index l.next p))
