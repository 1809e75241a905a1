use Rattle.std.proofs.Common.{◌≡◌, map, take}
use Rattle.reg_process.specs.Process.{resent}
use Rattle.reg_process.specs.Puts.{put_to}
use Rattle.reg_world.specs.Sent.{sent}
use Rattle.reg_world.proofs.putting.put_each_to.Given as goal

abbrev pub invariant-loop-place : goal.invariant-loop-place
invariant-loop-place g l = g.W.WireStore.wires l.wires ≡ sent (map (put_to l.to) (take l.place (resent l.process.state l.to))) (g.W.WireStore.wires l.initial.wires)
