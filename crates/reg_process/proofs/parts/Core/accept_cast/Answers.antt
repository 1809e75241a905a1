use Rattle.std.proofs.Common.{◌≡◌, ◌<◌, ◌≤◌, ◌+◌, length, sym, ap, subst, ◌∙◌, arith}
use Rattle.std.specs.Prelude.{slice_index}
use Rattle.std.proofs.lemmas.List.{get_or_default}
use Rattle.reg_base.specs.Memory.{register_of}
use Rattle.reg_process.specs.Process.{State, seen_at}
use Rattle.reg_base.specs.declared.limits.TheConstants.{LAST_TIME}
use Rattle.reg_holdback.specs.Waiting.{Waiting}
use Rattle.reg_process.specs.Parts.{Parts, state_of}
use Rattle.reg_process.specs.Bounds.{Good}
use Rattle.reg_process.specs.Queued.{outs_of}
use Rattle.reg_process.specs.Sending.{puts_of}
use Rattle.reg_process.proofs.Pending.{has_numbers, not_stale}
use Rattle.reg_process.specs.Steps.{TakesCast}
use Rattle.reg_process.proofs.Deliveries.{length-merged}
use Rattle.reg_process.proofs.Sending.{grown_good, accepted_good, accepted_takes}
use Rattle.reg_process.proofs.parts.Core.accept_cast.Goals as goal

pub index-requires : goal.index-requires
index-requires g c =
    let p : Parts = record { me = c.self.inside.me; clock = c.self.inside.clock; waiting = c.self.inside.waiting; expected = c.self.inside.inboxes.items; outs = outs_of c.self.inside.me c.self.inside.outboxes; copy = c.self.inside.copy; delivered = c.self.inside.delivered; unsettled = c.self.inside.unsettled; running = c.self.inside.running; calls = c.self.inside.calls } in
    let i = c.self.invariant in
    let peer : c.args.from < length c.self.inside.waiting.seen = let z = ap (λ (s : State). length s.peers) c.self.view_is in let y = c.requires.peer in let x = length-merged p.waiting.seen p.expected p.outs i.ins i.out in omega (arith, z, y, x) in
    let z = i.ins in let y = c.self.inside.inboxes.ok in omega (arith, z, peer)

pub invariant_of-self-in_default-queue_on_all : goal.invariant_of-self-in_default-queue_on_all
invariant_of-self-in_default-queue_on_all g c =
    let p : Parts = record { me = c.self.inside.me; clock = c.self.inside.clock; waiting = c.self.inside.waiting; expected = c.self.inside.inboxes.items; outs = outs_of c.self.inside.me c.self.inside.outboxes; copy = c.self.inside.copy; delivered = c.self.inside.delivered; unsettled = c.self.inside.unsettled; running = c.self.inside.running; calls = c.self.inside.calls } in
    let t = c.in-Ok.ensures.answer in
    let k = c.in-Ok.ensures.after in
    let up : c.self.inside.clock < c.receive.new.self = omega (arith, k) in
    let top : c.receive.new.self ≤ LAST_TIME = let z = t.0 in omega (arith, k, z) in
    grown_good p c.self.invariant c.receive.new.self (outs_of c.self.inside.me c.queue_on_all.new.outboxes) up top c.queue_on_all.ensures.grown c.queue_on_all.ensures.length

pub invariant_of-self-in_default-hold_cast : goal.invariant_of-self-in_default-hold_cast
invariant_of-self-in_default-hold_cast g c =
    let p : Parts = record { me = c.self.inside.me; clock = c.self.inside.clock; waiting = c.self.inside.waiting; expected = c.self.inside.inboxes.items; outs = outs_of c.self.inside.me c.self.inside.outboxes; copy = c.self.inside.copy; delivered = c.self.inside.delivered; unsettled = c.self.inside.unsettled; running = c.self.inside.running; calls = c.self.inside.calls } in
    let t = c.in-Ok.ensures.answer in
    let k = c.in-Ok.ensures.after in
    let up : c.self.inside.clock < c.receive.new.self = omega (arith, k) in
    let top : c.receive.new.self ≤ LAST_TIME = let z = t.0 in omega (arith, k, z) in
    let same : c.self.inside.waiting ≡ c.hold_cast.new.waiting = sym c.in_default-hold_cast.ensures.unchanged in
    subst (λ (w : Waiting). Good (record p { clock = c.receive.new.self; waiting = w; outs = (outs_of c.self.inside.me c.queue_on_all.new.outboxes) })) same
    (grown_good p c.self.invariant c.receive.new.self (outs_of c.self.inside.me c.queue_on_all.new.outboxes) up top c.queue_on_all.ensures.grown c.queue_on_all.ensures.length)

pub invariant_of-self-2 : goal.invariant_of-self-2
invariant_of-self-2 g c =
    let p : Parts = record { me = c.self.inside.me; clock = c.self.inside.clock; waiting = c.self.inside.waiting; expected = c.self.inside.inboxes.items; outs = outs_of c.self.inside.me c.self.inside.outboxes; copy = c.self.inside.copy; delivered = c.self.inside.delivered; unsettled = c.self.inside.unsettled; running = c.self.inside.running; calls = c.self.inside.calls } in
    let i = c.self.invariant in
    let peer : c.args.from < length c.self.inside.waiting.seen = let z = ap (λ (s : State). length s.peers) c.self.view_is in let y = c.requires.peer in let x = length-merged p.waiting.seen p.expected p.outs i.ins i.out in omega (arith, z, y, x) in
    let t = c.in-Ok.ensures.answer in
    let k = c.in-Ok.ensures.after in
    let register : register_of c.args.op < length c.self.inside.copy = let z = ap (λ (s : State). length s.copy) c.self.view_is in let y = c.requires.register in omega (arith, z, y) in
    let other : c.args.from ≡ c.self.inside.me → ⊥ = λ q. c.requires.other (q ∙ ap (λ (s : State). s.me) c.self.view_is) in
    let l : c.args.from < length c.self.inside.inboxes.items = let z = i.ins in omega (arith, z, peer) in
    let count : c.expected-count.result + 1 ≡ slice_index c.self.inside.inboxes.items c.args.from + 1 = ap (λ n. n + 1) (c.expected-count.ensures.value ∙ c.index.ensures ∙ get_or_default c.self.inside.inboxes.items c.args.from _ 0 l) in
    accepted_good p i c.args.from c.args.time c.args.op peer register c.in-Ok.now c.receive.new.self (c.expected-count.result + 1) c.hold_cast.new.waiting (outs_of c.self.inside.me c.queue_on_all.new.outboxes) c.expect_next.new.inboxes.items (puts_of c.queue_on_all.new.sends) t.0 other t.1 k count c.in-Ok-hold_cast.ensures.held c.in-Ok-queue_on_all.ensures.queued c.expect_next.ensures c.in-Ok-queue_on_all.ensures.frames c.queue_on_all.ensures.grown c.queue_on_all.ensures.length

pub returns : goal.returns
returns g c =
    let p : Parts = record { me = c.self.inside.me; clock = c.self.inside.clock; waiting = c.self.inside.waiting; expected = c.self.inside.inboxes.items; outs = outs_of c.self.inside.me c.self.inside.outboxes; copy = c.self.inside.copy; delivered = c.self.inside.delivered; unsettled = c.self.inside.unsettled; running = c.self.inside.running; calls = c.self.inside.calls } in
    let i = c.self.invariant in
    let peer : c.args.from < length c.self.inside.waiting.seen = let z = ap (λ (s : State). length s.peers) c.self.view_is in let y = c.requires.peer in let x = length-merged p.waiting.seen p.expected p.outs i.ins i.out in omega (arith, z, y, x) in
    let t = c.in-Ok.ensures.answer in
    let k = c.in-Ok.ensures.after in
    let register : register_of c.args.op < length c.self.inside.copy = let z = ap (λ (s : State). length s.copy) c.self.view_is in let y = c.requires.register in omega (arith, z, y) in
    let other : c.args.from ≡ c.self.inside.me → ⊥ = λ q. c.requires.other (q ∙ ap (λ (s : State). s.me) c.self.view_is) in
    let l : c.args.from < length c.self.inside.inboxes.items = let z = i.ins in omega (arith, z, peer) in
    let count : c.expected-count.result + 1 ≡ slice_index c.self.inside.inboxes.items c.args.from + 1 = ap (λ n. n + 1) (c.expected-count.ensures.value ∙ c.index.ensures ∙ get_or_default c.self.inside.inboxes.items c.args.from _ 0 l) in
    subst (λ (s : State). TakesCast s c.args.from c.args.time c.args.op (puts_of c.queue_on_all.new.sends) (state_of (record p { clock = c.receive.new.self; waiting = c.hold_cast.new.waiting; expected = c.expect_next.new.inboxes.items; outs = (outs_of c.self.inside.me c.queue_on_all.new.outboxes) }))) c.self.view_is
    (accepted_takes p i c.args.from c.args.time c.args.op peer register c.in-Ok.now c.receive.new.self (c.expected-count.result + 1) c.hold_cast.new.waiting (outs_of c.self.inside.me c.queue_on_all.new.outboxes) c.expect_next.new.inboxes.items (puts_of c.queue_on_all.new.sends) t.0 other t.1 k count c.in-Ok-hold_cast.ensures.held c.in-Ok-queue_on_all.ensures.queued c.expect_next.ensures c.in-Ok-queue_on_all.ensures.frames c.queue_on_all.ensures.grown c.queue_on_all.ensures.length)

pub queue_on_all-requires-clause-numbers : goal.queue_on_all-requires-clause-numbers
queue_on_all-requires-clause-numbers g c =
    let p : Parts = record { me = c.self.inside.me; clock = c.self.inside.clock; waiting = c.self.inside.waiting; expected = c.self.inside.inboxes.items; outs = outs_of c.self.inside.me c.self.inside.outboxes; copy = c.self.inside.copy; delivered = c.self.inside.delivered; unsettled = c.self.inside.unsettled; running = c.self.inside.running; calls = c.self.inside.calls } in
    let t = c.in-Ok.ensures.answer in
    has_numbers p c.self.invariant (let z = t.0 in omega (arith, z))

pub hold_cast-requires : goal.hold_cast-requires
hold_cast-requires g c =
    let p : Parts = record { me = c.self.inside.me; clock = c.self.inside.clock; waiting = c.self.inside.waiting; expected = c.self.inside.inboxes.items; outs = outs_of c.self.inside.me c.self.inside.outboxes; copy = c.self.inside.copy; delivered = c.self.inside.delivered; unsettled = c.self.inside.unsettled; running = c.self.inside.running; calls = c.self.inside.calls } in
    let i = c.self.invariant in
    let peer : c.args.from < length c.self.inside.waiting.seen = let z = ap (λ (s : State). length s.peers) c.self.view_is in let y = c.requires.peer in let x = length-merged p.waiting.seen p.expected p.outs i.ins i.out in omega (arith, z, y, x) in
    let other : c.args.from ≡ c.self.inside.me → ⊥ = λ q. c.requires.other (q ∙ ap (λ (s : State). s.me) c.self.view_is) in
    let z = ap (λ (s : State). seen_at s c.args.from) c.self.view_is in
    let y = c.requires.fresh in
    not_stale p i c.args.from c.args.time peer other (omega (arith, z, y))

pub expect_next-requires-clause-within : goal.expect_next-requires-clause-within
expect_next-requires-clause-within g c =
    let p : Parts = record { me = c.self.inside.me; clock = c.self.inside.clock; waiting = c.self.inside.waiting; expected = c.self.inside.inboxes.items; outs = outs_of c.self.inside.me c.self.inside.outboxes; copy = c.self.inside.copy; delivered = c.self.inside.delivered; unsettled = c.self.inside.unsettled; running = c.self.inside.running; calls = c.self.inside.calls } in
    let i = c.self.invariant in
    let peer : c.args.from < length c.self.inside.waiting.seen = let z = ap (λ (s : State). length s.peers) c.self.view_is in let y = c.requires.peer in let x = length-merged p.waiting.seen p.expected p.outs i.ins i.out in omega (arith, z, y, x) in
    let z = i.ins in omega (arith, z, peer)
