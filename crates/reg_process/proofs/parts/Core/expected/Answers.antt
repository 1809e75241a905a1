use Rattle.std.proofs.Common.{◌≡◌, ◌<◌, length, sym, ap, subst, ◌∙◌, arith}
use Rattle.std.proofs.lemmas.List.{get_or_default}
use Rattle.reg_process.specs.Process.{State, peer_at}
use Rattle.reg_process.specs.Parts.{Parts}
use Rattle.reg_process.specs.Queued.{outs_of}
use Rattle.reg_process.proofs.Deliveries.{length-merged}
use Rattle.reg_process.proofs.Sending.{merged_expected}
use Rattle.reg_process.proofs.parts.Core.expected.Goals as goal

pub index-requires : goal.index-requires
index-requires g c =
    let p : Parts = record { me = c.self.inside.me; clock = c.self.inside.clock; waiting = c.self.inside.waiting; expected = c.self.inside.inboxes.items; outs = outs_of c.self.inside.me c.self.inside.outboxes; copy = c.self.inside.copy; delivered = c.self.inside.delivered; unsettled = c.self.inside.unsettled; running = c.self.inside.running; calls = c.self.inside.calls } in
    let i = c.self.invariant in
    let peer : c.args.from < length c.self.inside.waiting.seen = let z = ap (λ (s : State). length s.peers) c.self.view_is in let y = c.requires in let x = length-merged p.waiting.seen p.expected p.outs i.ins i.out in omega (arith, z, y, x) in
    let l : c.args.from < length c.self.inside.inboxes.items = let z = i.ins in omega (arith, z, peer) in
    omega (arith, l)

pub returns : goal.returns
returns g c =
    let p : Parts = record { me = c.self.inside.me; clock = c.self.inside.clock; waiting = c.self.inside.waiting; expected = c.self.inside.inboxes.items; outs = outs_of c.self.inside.me c.self.inside.outboxes; copy = c.self.inside.copy; delivered = c.self.inside.delivered; unsettled = c.self.inside.unsettled; running = c.self.inside.running; calls = c.self.inside.calls } in
    let i = c.self.invariant in
    let peer : c.args.from < length c.self.inside.waiting.seen = let z = ap (λ (s : State). length s.peers) c.self.view_is in let y = c.requires in let x = length-merged p.waiting.seen p.expected p.outs i.ins i.out in omega (arith, z, y, x) in
    let l : c.args.from < length c.self.inside.inboxes.items = let z = i.ins in omega (arith, z, peer) in
    subst (λ (s : State). c.expected.result ≡ (peer_at s c.args.from).expected) c.self.view_is
    (c.expected.ensures.value ∙ c.index.ensures ∙ get_or_default c.self.inside.inboxes.items c.args.from _ 0 l ∙ sym (merged_expected p.waiting.seen p.expected p.outs c.args.from i.ins i.out))
