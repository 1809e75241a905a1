use Rattle.std.proofs.Common.{◌≡◌, ◌<◌, ℕ}
use Rattle.reg_show.specs.Shorts.{finished_of}
use Rattle.reg_show.proofs.shortening.have_same_answers.Given as goal

-- the processes so far finish the same
abbrev pub invariant-loop-process : goal.invariant-loop-process
invariant-loop-process g l = (p : ℕ) → p < l.process → finished_of p l.entries ≡ finished_of p l.others
