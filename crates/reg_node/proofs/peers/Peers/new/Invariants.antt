use Rattle.std.proofs.Common.{◌≡◌, replicate, None}
use Rattle.reg_node.specs.Peers.{unheard_beat}
use Rattle.reg_node.proofs.peers.Peers.new.Given as goal

abbrev pub invariant-loop-process : goal.invariant-loop-process
invariant-loop-process g l = l.all.items ≡ replicate l._process (record { beat = unheard_beat; awaited = None })
