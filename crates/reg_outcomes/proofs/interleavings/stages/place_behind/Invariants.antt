use Rattle.std.proofs.Common.{◌≡◌, ◌++◌, take, drop}
use Rattle.reg_outcomes.specs.declared.told.ToldAnswer.{ToldAnswer}
use Rattle.reg_outcomes.specs.Interleavings.{told_behind}
use Rattle.reg_outcomes.proofs.interleavings.stages.place_behind.Given as goal

-- a value of the process stands behind all so far
abbrev pub invariant-loop-place : goal.invariant-loop-place
invariant-loop-place l = (t : ToldAnswer) → t.process ≡ l.process → told_behind t l.told ≡ take l.place l.told ++ told_behind t (drop l.place l.told)
