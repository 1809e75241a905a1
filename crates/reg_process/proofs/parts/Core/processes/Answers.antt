use Rattle.std.proofs.Common.{length, ap, arith}
use Rattle.reg_process.specs.Process.{State}
use Rattle.reg_process.specs.Queued.{outs_of}
use Rattle.reg_process.proofs.Deliveries.{length-merged}
use Rattle.reg_process.proofs.parts.Core.processes.Goals as goal

pub returns-clause-value : goal.returns-clause-value
returns-clause-value g c =
    let i = c.self.invariant in
    let x = length-merged c.self.inside.waiting.seen c.self.inside.inboxes.items (outs_of c.self.inside.me c.self.inside.outboxes) i.ins i.out in
    let view = ap (λ (s : State). length s.peers) c.self.view_is in
    let ins = i.ins in
    let len = c.len.ensures in
    omega (arith, x, view, ins, len)
