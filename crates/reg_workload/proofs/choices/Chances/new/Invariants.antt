use Rattle.std.proofs.Common.{◌≤◌}
use Rattle.reg_workload.specs.Listed.{AreListedBut}
use Rattle.reg_workload.proofs.choices.Chances.new.Given as goal

-- all but the processes from this one on
abbrev pub invariant-loop-process : goal.invariant-loop-process
invariant-loop-process g l = AreListedBut g.F.FrontEnd.start l.player (λ p. l.process ≤ p) (λ _ _. ⊥) l.chances
