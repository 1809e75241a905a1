use Rattle.std.proofs.Common.{◌≡◌, not, length, sym, ap, subst, ◌∙◌, arith}
use Rattle.std.specs.Prelude.{nat_eq, nat_lt}
use Rattle.reg_process.specs.Process.{State}
use Rattle.reg_process.specs.Parts.{Parts, state_of}
use Rattle.reg_process.specs.Queued.{outs_of}
use Rattle.reg_process.specs.Steps.{is_peer}
use Rattle.reg_process.proofs.Deliveries.{length-merged}
use Rattle.reg_process.proofs.Calls.{within_peer, past_peer}
use Rattle.reg_process.proofs.parts.Core.is_peer.Goals as goal

pub returns-then-from-len : goal.returns-then-from-len
returns-then-from-len g c =
    let p : Parts = record { me = c.self.inside.me; clock = c.self.inside.clock; waiting = c.self.inside.waiting; expected = c.self.inside.inboxes.items; outs = outs_of c.self.inside.me c.self.inside.outboxes; copy = c.self.inside.copy; delivered = c.self.inside.delivered; unsettled = c.self.inside.unsettled; running = c.self.inside.running; calls = c.self.inside.calls } in
    let i = c.self.invariant in
    let len : length p.expected ≡ length (state_of p).peers = let x = length-merged p.waiting.seen p.expected p.outs i.ins i.out in i.ins ∙ sym x in
    subst (λ (s : State). not (nat_eq c.args.from c.self.inside.me) ≡ is_peer s c.args.from) c.self.view_is
    (within_peer (length (state_of p).peers) c.args.from c.self.inside.me (let z = c.len.ensures in let y = c.if-from-len.true in omega (arith, len, z, y)))

pub returns-else-from-len : goal.returns-else-from-len
returns-else-from-len g c =
    let p : Parts = record { me = c.self.inside.me; clock = c.self.inside.clock; waiting = c.self.inside.waiting; expected = c.self.inside.inboxes.items; outs = outs_of c.self.inside.me c.self.inside.outboxes; copy = c.self.inside.copy; delivered = c.self.inside.delivered; unsettled = c.self.inside.unsettled; running = c.self.inside.running; calls = c.self.inside.calls } in
    let i = c.self.invariant in
    let len : length p.expected ≡ length (state_of p).peers = let x = length-merged p.waiting.seen p.expected p.outs i.ins i.out in i.ins ∙ sym x in
    let same : c.len.result ≡ length (state_of p).peers = let z = c.len.ensures in omega (arith, len, z) in
    subst (λ (s : State). nat_lt c.args.from c.len.result ≡ is_peer s c.args.from) c.self.view_is
    (ap (nat_lt c.args.from) same ∙ past_peer (length (state_of p).peers) c.args.from c.self.inside.me (let y = c.if-from-len.false in omega (arith, same, y)))
