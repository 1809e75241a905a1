use Rattle.std.proofs.Common.{◌<◌, ℕ}
use Rattle.reg_node.specs.Chapters.{IsDone}
use Rattle.reg_node.proofs.chapters.Chapter.is_over.Given as goal

-- those so far are done
abbrev pub invariant-loop-process : goal.invariant-loop-process
invariant-loop-process g l = (p : ℕ) → p < l.process → IsDone l.self.told p
