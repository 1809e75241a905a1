use Rattle.reg_node.specs.Replaying.{IsReplayed}
use Rattle.reg_node.proofs.replaying.replay.Given as goal

abbrev pub invariant-loop-place : goal.invariant-loop-place
invariant-loop-place g l = IsReplayed g.F.FrontEnd.start l.fn.process.state l.entries l.place l.process
