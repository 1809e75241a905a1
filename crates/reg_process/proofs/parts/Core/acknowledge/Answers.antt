use Rattle.std.proofs.Common.{◌≡◌, ◌<◌, ◌≤◌, List, length, sym, ap, subst, ◌∙◌, arith}
use Rattle.std.specs.Prelude.{slice_index_or, slice_set, cond, not, nat_lt}
use Rattle.reg_process.specs.Process.{State, peer_at, acknowledged}
use Rattle.reg_process.specs.Process as process
use Rattle.reg_process.specs.Parts.{Parts, state_of, nothing}
use Rattle.reg_process.specs.Bounds.{Good}
use Rattle.reg_process.specs.Queued.{outs_of}
use Rattle.reg_process.proofs.Deliveries.{length-merged}
use Rattle.reg_process.proofs.Acks.{count_fits, counted_state, set_good, ok_means, err_means}
use Rattle.reg_process.proofs.Outs.{length-outs, link_is, outs_counted, got_link, got_others, got_next}
use Rattle.reg_links.specs.Link.{Unacknowledged, next_of}
use Rattle.reg_links.specs.Link as link
use Rattle.reg_links.specs.Sending.{link_to}
use Rattle.reg_process.proofs.parts.Core.acknowledge.Goals as goal

pub got-requires : goal.got-requires
got-requires g c =
    let p : Parts = record { me = c.self.inside.me; clock = c.self.inside.clock; waiting = c.self.inside.waiting; expected = c.self.inside.inboxes.items; outs = outs_of c.self.inside.me c.self.inside.outboxes; copy = c.self.inside.copy; delivered = c.self.inside.delivered; unsettled = c.self.inside.unsettled; running = c.self.inside.running; calls = c.self.inside.calls } in
    let i = c.self.invariant in
    let peer : c.args.from < length c.self.inside.waiting.seen = let z = ap (λ (s : State). length s.peers) c.self.view_is in let y = c.requires.peer in let x = length-merged p.waiting.seen p.expected p.outs i.ins i.out in omega (arith, z, y, x) in
    let l : c.args.from < length c.self.inside.outboxes.counts = let z = i.out in let y = length-outs c.self.inside.me c.self.inside.outboxes in omega (arith, z, y, peer) in
    l

pub invariant_of-self : goal.invariant_of-self
invariant_of-self g c =
    let p : Parts = record { me = c.self.inside.me; clock = c.self.inside.clock; waiting = c.self.inside.waiting; expected = c.self.inside.inboxes.items; outs = outs_of c.self.inside.me c.self.inside.outboxes; copy = c.self.inside.copy; delivered = c.self.inside.delivered; unsettled = c.self.inside.unsettled; running = c.self.inside.running; calls = c.self.inside.calls } in
    let i = c.self.invariant in
    let peer : c.args.from < length c.self.inside.waiting.seen = let z = ap (λ (s : State). length s.peers) c.self.view_is in let y = c.requires.peer in let x = length-merged p.waiting.seen p.expected p.outs i.ins i.out in omega (arith, z, y, x) in
    let l : c.args.from < length c.self.inside.outboxes.counts = let z = i.out in let y = length-outs c.self.inside.me c.self.inside.outboxes in omega (arith, z, y, peer) in
    let other : c.args.from ≡ c.self.inside.me → ⊥ = λ q. c.requires.other (q ∙ ap (λ (s : State). s.me) c.self.view_is) in
    let is : link_to c.self.inside.outboxes c.args.from ≡ slice_index_or p.outs c.args.from nothing = sym (link_is c.self.inside.me c.self.inside.outboxes c.args.from l other) in
    let outs : outs_of c.self.inside.me c.got.new.self ≡ slice_set p.outs c.args.from (link_to c.got.new.self c.args.from) = outs_counted c.self.inside.me c.self.inside.outboxes c.got.new.self c.args.from other l c.got.ensures.processes (got_others c.self.inside.outboxes c.got.new.self c.args.from c.args.count c.got.result c.got.ensures.counted c.got.ensures.unchanged) in
    let next = got_next c.self.inside.outboxes c.got.new.self c.args.from c.args.count c.got.result tt c.got.ensures.answer c.got.ensures.counted c.got.ensures.unchanged in
    let at = ap next_of is in
    subst (λ (os : List Unacknowledged). Good (record p { outs = os })) (sym outs)
    (set_good p i c.args.from (link_to c.got.new.self c.args.from) (let z = i.out in omega (arith, z, peer)) (omega (arith, next, at)))

pub returns-clause-answer : goal.returns-clause-answer
returns-clause-answer g c =
    let p : Parts = record { me = c.self.inside.me; clock = c.self.inside.clock; waiting = c.self.inside.waiting; expected = c.self.inside.inboxes.items; outs = outs_of c.self.inside.me c.self.inside.outboxes; copy = c.self.inside.copy; delivered = c.self.inside.delivered; unsettled = c.self.inside.unsettled; running = c.self.inside.running; calls = c.self.inside.calls } in
    let i = c.self.invariant in
    let peer : c.args.from < length c.self.inside.waiting.seen = let z = ap (λ (s : State). length s.peers) c.self.view_is in let y = c.requires.peer in let x = length-merged p.waiting.seen p.expected p.outs i.ins i.out in omega (arith, z, y, x) in
    let l : c.args.from < length c.self.inside.outboxes.counts = let z = i.out in let y = length-outs c.self.inside.me c.self.inside.outboxes in omega (arith, z, y, peer) in
    let other : c.args.from ≡ c.self.inside.me → ⊥ = λ q. c.requires.other (q ∙ ap (λ (s : State). s.me) c.self.view_is) in
    let is : link_to c.self.inside.outboxes c.args.from ≡ slice_index_or p.outs c.args.from nothing = sym (link_is c.self.inside.me c.self.inside.outboxes c.args.from l other) in
    subst (λ (s : State). c.is_ok.result ≡ not (nat_lt (process.next_of (peer_at s c.args.from)) c.args.count)) c.self.view_is
    (count_fits p i c.args.from c.args.count peer (link_to c.self.inside.outboxes c.args.from) is c.is_ok.result
    (λ e. ok_means c.got.result (c.args.count ≤ next_of (link_to c.self.inside.outboxes c.args.from)) tt c.got.ensures.answer (sym c.is_ok.ensures.value ∙ e))
    (λ e. let n = err_means c.got.result (c.args.count ≤ next_of (link_to c.self.inside.outboxes c.args.from)) tt c.got.ensures.answer (sym c.is_ok.ensures.value ∙ e) in omega (arith, n)))

pub returns-clause-after : goal.returns-clause-after
returns-clause-after g c =
    let p : Parts = record { me = c.self.inside.me; clock = c.self.inside.clock; waiting = c.self.inside.waiting; expected = c.self.inside.inboxes.items; outs = outs_of c.self.inside.me c.self.inside.outboxes; copy = c.self.inside.copy; delivered = c.self.inside.delivered; unsettled = c.self.inside.unsettled; running = c.self.inside.running; calls = c.self.inside.calls } in
    let i = c.self.invariant in
    let peer : c.args.from < length c.self.inside.waiting.seen = let z = ap (λ (s : State). length s.peers) c.self.view_is in let y = c.requires.peer in let x = length-merged p.waiting.seen p.expected p.outs i.ins i.out in omega (arith, z, y, x) in
    let l : c.args.from < length c.self.inside.outboxes.counts = let z = i.out in let y = length-outs c.self.inside.me c.self.inside.outboxes in omega (arith, z, y, peer) in
    let other : c.args.from ≡ c.self.inside.me → ⊥ = λ q. c.requires.other (q ∙ ap (λ (s : State). s.me) c.self.view_is) in
    let is : link_to c.self.inside.outboxes c.args.from ≡ slice_index_or p.outs c.args.from nothing = sym (link_is c.self.inside.me c.self.inside.outboxes c.args.from l other) in
    let outs : outs_of c.self.inside.me c.got.new.self ≡ slice_set p.outs c.args.from (link_to c.got.new.self c.args.from) = outs_counted c.self.inside.me c.self.inside.outboxes c.got.new.self c.args.from other l c.got.ensures.processes (got_others c.self.inside.outboxes c.got.new.self c.args.from c.args.count c.got.result c.got.ensures.counted c.got.ensures.unchanged) in
    subst (λ (s : State). state_of (record p { outs = outs_of c.self.inside.me c.got.new.self }) ≡ cond c.is_ok.result (acknowledged s c.args.from c.args.count) s) c.self.view_is
    (ap (λ (os : List Unacknowledged). state_of (record p { outs = os })) outs
    ∙ counted_state p i c.args.from c.args.count peer (link_to c.self.inside.outboxes c.args.from) is c.is_ok.result (link_to c.got.new.self c.args.from)
    (got_link c.self.inside.outboxes c.got.new.self c.args.from c.args.count c.got.result c.got.ensures.counted c.got.ensures.unchanged ∙ ap (λ b. cond b (link.acknowledged (link_to c.self.inside.outboxes c.args.from) c.args.count) (link_to c.self.inside.outboxes c.args.from)) (sym c.is_ok.ensures.value)))
