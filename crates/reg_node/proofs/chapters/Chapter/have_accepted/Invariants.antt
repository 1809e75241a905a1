use Rattle.std.proofs.Common.{◌≢◌, ◌<◌, ℕ}
use Rattle.reg_node.specs.Chapters.{HasAccepted}
use Rattle.reg_node.proofs.chapters.Chapter.have_accepted.Given as goal

-- those so far have accepted them
abbrev pub invariant-loop-process : goal.invariant-loop-process
invariant-loop-process g l = (q : ℕ) → q < l.process → q ≢ l.of → HasAccepted l.self.told q l.of l.count
