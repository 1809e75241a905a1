use Rattle.std.proofs.Common.{◌≡◌}
use Rattle.reg_process.specs.Puts.{puts}
use Rattle.reg_process.specs.Sending.{sent_frames}
use Rattle.reg_world.specs.Sent.{sent}
use Rattle.reg_world.proofs.putting.put_all.Given as goal

abbrev pub invariant-loop-to : goal.invariant-loop-to
invariant-loop-to g l =
    g.W.WireStore.wires l.wires ≡ sent (puts (sent_frames l.sent) l.to) (g.W.WireStore.wires l.initial.wires)
