use Rattle.std.proofs.Common.{◌≡◌, ◌<◌, ◌-◌, length, sym, ap, subst, ◌∙◌, arith}
use Rattle.reg_links.specs.Sending.{link_to}
use Rattle.reg_process.specs.Process.{State, peer_at}
use Rattle.reg_process.specs.Known.{known_of}
use Rattle.reg_process.specs.declared.known.Known.{Known}
use Rattle.reg_process.specs.Parts.{Parts}
use Rattle.reg_process.specs.Queued.{outs_of}
use Rattle.reg_process.proofs.Deliveries.{length-merged}
use Rattle.reg_process.proofs.Outs.{length-outs, link_is}
use Rattle.reg_process.proofs.Calls.{seen_some, seen_none}
use Rattle.reg_process.proofs.Knowing.{known_is}
use Rattle.reg_process.proofs.parts.Core.known.Goals as goal

pub unreachable-requires : goal.unreachable-requires
unreachable-requires g c =
    let p : Parts = record { me = c.self.inside.me; clock = c.self.inside.clock; waiting = c.self.inside.waiting; expected = c.self.inside.inboxes.items; outs = outs_of c.self.inside.me c.self.inside.outboxes; copy = c.self.inside.copy; delivered = c.self.inside.delivered; unsettled = c.self.inside.unsettled; running = c.self.inside.running; calls = c.self.inside.calls } in
    let i = c.self.invariant in
    let peer : c.args.process < length c.self.inside.waiting.seen = let z = ap (λ (s : State). length s.peers) c.self.view_is in let y = c.requires.peer in let x = length-merged p.waiting.seen p.expected p.outs i.ins i.out in omega (arith, z, y, x) in
    let other : c.args.process ≡ c.self.inside.me → ⊥ = λ q. c.requires.other (q ∙ ap (λ (s : State). s.me) c.self.view_is) in
    absurd (seen_none p i c.args.process peer other c.in_default.ensures)

pub pending-requires : goal.pending-requires
pending-requires g c =
    let p : Parts = record { me = c.self.inside.me; clock = c.self.inside.clock; waiting = c.self.inside.waiting; expected = c.self.inside.inboxes.items; outs = outs_of c.self.inside.me c.self.inside.outboxes; copy = c.self.inside.copy; delivered = c.self.inside.delivered; unsettled = c.self.inside.unsettled; running = c.self.inside.running; calls = c.self.inside.calls } in
    let i = c.self.invariant in
    let peer : c.args.process < length c.self.inside.waiting.seen = let z = ap (λ (s : State). length s.peers) c.self.view_is in let y = c.requires.peer in let x = length-merged p.waiting.seen p.expected p.outs i.ins i.out in omega (arith, z, y, x) in
    let long = length-outs c.self.inside.me c.self.inside.outboxes in
    let out = i.out in
    omega (arith, peer, long, out)

pub returns : goal.returns
returns g c =
    let p : Parts = record { me = c.self.inside.me; clock = c.self.inside.clock; waiting = c.self.inside.waiting; expected = c.self.inside.inboxes.items; outs = outs_of c.self.inside.me c.self.inside.outboxes; copy = c.self.inside.copy; delivered = c.self.inside.delivered; unsettled = c.self.inside.unsettled; running = c.self.inside.running; calls = c.self.inside.calls } in
    let i = c.self.invariant in
    let r = c.args.process in
    let peer : r < length c.self.inside.waiting.seen = let z = ap (λ (s : State). length s.peers) c.self.view_is in let y = c.requires.peer in let x = length-merged p.waiting.seen p.expected p.outs i.ins i.out in omega (arith, z, y, x) in
    let other : r ≡ c.self.inside.me → ⊥ = λ q. c.requires.other (q ∙ ap (λ (s : State). s.me) c.self.view_is) in
    let within : r < length c.self.inside.outboxes.counts = let long = length-outs c.self.inside.me c.self.inside.outboxes in let out = i.out in omega (arith, peer, long, out) in
    let same = c.self.view_is in
    let expected = c.expected-expected.ensures ∙ sym (ap (λ (s : State). (peer_at s r).expected) same) in
    let K : Known = record { seen = c.in-Some.seen; expected = c.expected-expected.result; first = c.next-next.result - c.pending.result; next = c.next-next.result } in
    subst (λ (s : State). K ≡ known_of (peer_at s r)) same
    (known_is p i r (link_to c.self.inside.outboxes r) c.in-Some.seen c.expected-expected.result c.next-next.result c.pending.result (link_is c.self.inside.me c.self.inside.outboxes r within other)
    (seen_some p i r peer other c.in-Some.seen c.in-Some.ensures) expected (sym (c.next-next.ensures.links r within)) c.pending.ensures.value)
