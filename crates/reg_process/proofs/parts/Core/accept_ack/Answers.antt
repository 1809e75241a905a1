use Rattle.std.proofs.Common.{◌≡◌, ◌<◌, ◌+◌, [], ◌∷◌, length, refl, ap, subst, ◌∙◌, arith}
use Rattle.std.specs.Prelude.{slice_index}
use Rattle.std.proofs.lemmas.List.{get_or_default}
use Rattle.reg_process.specs.Process.{State, seen_at}
use Rattle.reg_frames.specs.declared.bodies.Frame.TheVariants.{Got}
use Rattle.reg_process.specs.Puts.{put_to}
use Rattle.reg_process.specs.Parts.{Parts, state_of}
use Rattle.reg_process.specs.Queued.{outs_of}
use Rattle.reg_process.proofs.Pending.{not_stale}
use Rattle.reg_process.specs.Steps.{TakesAck}
use Rattle.reg_process.proofs.Deliveries.{length-merged}
use Rattle.reg_process.proofs.Acks.{acked_good, acked_takes}
use Rattle.reg_process.proofs.parts.Core.accept_ack.Goals as goal

pub index-requires : goal.index-requires
index-requires g c =
    let p : Parts = record { me = c.self.inside.me; clock = c.self.inside.clock; waiting = c.self.inside.waiting; expected = c.self.inside.inboxes.items; outs = outs_of c.self.inside.me c.self.inside.outboxes; copy = c.self.inside.copy; delivered = c.self.inside.delivered; unsettled = c.self.inside.unsettled; running = c.self.inside.running; calls = c.self.inside.calls } in
    let i = c.self.invariant in
    let peer : c.args.from < length c.self.inside.waiting.seen = let z = ap (λ (s : State). length s.peers) c.self.view_is in let y = c.requires.peer in let x = length-merged p.waiting.seen p.expected p.outs i.ins i.out in omega (arith, z, y, x) in
    let z = i.ins in let y = c.self.inside.inboxes.ok in omega (arith, z, peer)

pub invariant_of-self-2 : goal.invariant_of-self-2
invariant_of-self-2 g c =
    let p : Parts = record { me = c.self.inside.me; clock = c.self.inside.clock; waiting = c.self.inside.waiting; expected = c.self.inside.inboxes.items; outs = outs_of c.self.inside.me c.self.inside.outboxes; copy = c.self.inside.copy; delivered = c.self.inside.delivered; unsettled = c.self.inside.unsettled; running = c.self.inside.running; calls = c.self.inside.calls } in
    let i = c.self.invariant in
    let peer : c.args.from < length c.self.inside.waiting.seen = let z = ap (λ (s : State). length s.peers) c.self.view_is in let y = c.requires.peer in let x = length-merged p.waiting.seen p.expected p.outs i.ins i.out in omega (arith, z, y, x) in
    let t = c.in-Ok.ensures.answer in
    let k = c.in-Ok.ensures.after in
    let l : c.args.from < length c.self.inside.inboxes.items = let z = i.ins in omega (arith, z, peer) in
    let count : c.expected-count.result + 1 ≡ slice_index c.self.inside.inboxes.items c.args.from + 1 = ap (λ n. n + 1) (c.expected-count.ensures.value ∙ c.index.ensures ∙ get_or_default c.self.inside.inboxes.items c.args.from _ 0 l) in
    acked_good p i c.args.from c.args.time peer c.receive.new.self (c.expected-count.result + 1) c.hear.new.waiting c.expect_next.new.inboxes.items (put_to c.args.from (Got (c.expected-count.result + 1)) ∷ []) t.0 k count c.hear.ensures c.expect_next.ensures refl

pub returns-clause-taken : goal.returns-clause-taken
returns-clause-taken g c =
    let p : Parts = record { me = c.self.inside.me; clock = c.self.inside.clock; waiting = c.self.inside.waiting; expected = c.self.inside.inboxes.items; outs = outs_of c.self.inside.me c.self.inside.outboxes; copy = c.self.inside.copy; delivered = c.self.inside.delivered; unsettled = c.self.inside.unsettled; running = c.self.inside.running; calls = c.self.inside.calls } in
    let i = c.self.invariant in
    let peer : c.args.from < length c.self.inside.waiting.seen = let z = ap (λ (s : State). length s.peers) c.self.view_is in let y = c.requires.peer in let x = length-merged p.waiting.seen p.expected p.outs i.ins i.out in omega (arith, z, y, x) in
    let t = c.in-Ok.ensures.answer in
    let k = c.in-Ok.ensures.after in
    let l : c.args.from < length c.self.inside.inboxes.items = let z = i.ins in omega (arith, z, peer) in
    let count : c.expected-count.result + 1 ≡ slice_index c.self.inside.inboxes.items c.args.from + 1 = ap (λ n. n + 1) (c.expected-count.ensures.value ∙ c.index.ensures ∙ get_or_default c.self.inside.inboxes.items c.args.from _ 0 l) in
    subst (λ (s : State). TakesAck s c.args.from c.args.time (put_to c.args.from (Got (c.expected-count.result + 1)) ∷ []) (state_of (record p { clock = c.receive.new.self; waiting = c.hear.new.waiting; expected = c.expect_next.new.inboxes.items }))) c.self.view_is
    (acked_takes p i c.args.from c.args.time peer c.receive.new.self (c.expected-count.result + 1) c.hear.new.waiting c.expect_next.new.inboxes.items (put_to c.args.from (Got (c.expected-count.result + 1)) ∷ []) t.0 k count c.hear.ensures c.expect_next.ensures refl)

pub hear-requires : goal.hear-requires
hear-requires g c =
    let p : Parts = record { me = c.self.inside.me; clock = c.self.inside.clock; waiting = c.self.inside.waiting; expected = c.self.inside.inboxes.items; outs = outs_of c.self.inside.me c.self.inside.outboxes; copy = c.self.inside.copy; delivered = c.self.inside.delivered; unsettled = c.self.inside.unsettled; running = c.self.inside.running; calls = c.self.inside.calls } in
    let i = c.self.invariant in
    let peer : c.args.from < length c.self.inside.waiting.seen = let z = ap (λ (s : State). length s.peers) c.self.view_is in let y = c.requires.peer in let x = length-merged p.waiting.seen p.expected p.outs i.ins i.out in omega (arith, z, y, x) in
    let other : c.args.from ≡ c.self.inside.me → ⊥ = λ q. c.requires.other (q ∙ ap (λ (s : State). s.me) c.self.view_is) in
    let z = ap (λ (s : State). seen_at s c.args.from) c.self.view_is in
    let y = c.requires.fresh in
    not_stale p i c.args.from c.args.time peer other (omega (arith, z, y))

pub expect_next-requires-clause-within : goal.expect_next-requires-clause-within
expect_next-requires-clause-within g c =
    let p : Parts = record { me = c.self.inside.me; clock = c.self.inside.clock; waiting = c.self.inside.waiting; expected = c.self.inside.inboxes.items; outs = outs_of c.self.inside.me c.self.inside.outboxes; copy = c.self.inside.copy; delivered = c.self.inside.delivered; unsettled = c.self.inside.unsettled; running = c.self.inside.running; calls = c.self.inside.calls } in
    let i = c.self.invariant in
    let peer : c.args.from < length c.self.inside.waiting.seen = let z = ap (λ (s : State). length s.peers) c.self.view_is in let y = c.requires.peer in let x = length-merged p.waiting.seen p.expected p.outs i.ins i.out in omega (arith, z, y, x) in
    let z = i.ins in omega (arith, z, peer)
