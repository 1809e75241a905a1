use Rattle.std.proofs.Common.{ℕ, ◌<◌, ◌≤◌}
use Rattle.std.specs.Prelude.{slice_index}
use Rattle.reg_base.specs.declared.memory.Answer.{Answer}
use Rattle.reg_checkers.specs.History.{IsAnswered}
use Rattle.reg_checkers.specs.Progress.{op_of}
use Rattle.reg_outcomes.proofs.orders.finder.Finder.are_placed_before.Given as goal

-- no process so far has an answer to its next operation that was given before
abbrev pub invariant-loop-process : goal.invariant-loop-process
invariant-loop-process g l = (p : ℕ) → p < l.process → (s : ℕ) (a : Answer) → IsAnswered l.self.entries (op_of p (slice_index l.next p)) s a → l.at ≤ s
