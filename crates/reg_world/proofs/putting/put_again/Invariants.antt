use Rattle.std.proofs.Common.{◌≡◌}
use Rattle.reg_process.specs.Process.{resent}
use Rattle.reg_process.specs.Puts.{puts}
use Rattle.reg_world.specs.Sent.{sent}
use Rattle.reg_world.proofs.putting.put_again.Given as goal

abbrev pub invariant-loop-to : goal.invariant-loop-to
invariant-loop-to g l =
    g.W.WireStore.wires l.wires ≡ sent (puts (resent l.process.state) l.to) (g.W.WireStore.wires l.initial.wires)
