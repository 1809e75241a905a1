use Rattle.std.proofs.Common.{◌<◌, ℕ}
use Rattle.reg_workload.specs.Plays.{IsDone}
use Rattle.reg_workload.proofs.playing.Player.is_finished.Given as goal

abbrev pub invariant-loop-process : goal.invariant-loop-process
invariant-loop-process g l = (p : ℕ) → p < l.process → IsDone g.F.FrontEnd.start l.self.scripts l.self.made p
