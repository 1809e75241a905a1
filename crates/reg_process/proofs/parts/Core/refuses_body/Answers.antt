use Rattle.std.proofs.Common.{◌≡◌, ◌<◌, length, sym, ap, ◌∙◌, arith}
use Rattle.reg_process.specs.Process.{State, seen_at}
use Rattle.reg_process.specs.Parts.{Parts}
use Rattle.reg_process.specs.Queued.{outs_of}
use Rattle.reg_process.proofs.Deliveries.{length-merged}
use Rattle.reg_process.proofs.Calls.{seen_some, seen_none, late, in_time}
use Rattle.reg_process.proofs.parts.Core.refuses_body.Goals as goal

pub returns-in_default : goal.returns-in_default
returns-in_default g c =
    let p : Parts = record { me = c.self.inside.me; clock = c.self.inside.clock; waiting = c.self.inside.waiting; expected = c.self.inside.inboxes.items; outs = outs_of c.self.inside.me c.self.inside.outboxes; copy = c.self.inside.copy; delivered = c.self.inside.delivered; unsettled = c.self.inside.unsettled; running = c.self.inside.running; calls = c.self.inside.calls } in
    let i = c.self.invariant in
    let peer : c.args.from < length c.self.inside.waiting.seen = let z = ap (λ (s : State). length s.peers) c.self.view_is in let y = c.requires.peer in let x = length-merged p.waiting.seen p.expected p.outs i.ins i.out in omega (arith, z, y, x) in
    let other : c.args.from ≡ c.self.inside.me → ⊥ = λ q. c.requires.other (q ∙ ap (λ (s : State). s.me) c.self.view_is) in
    absurd (seen_none p i c.args.from peer other c.in_default.ensures)

pub returns-then-time-seen : goal.returns-then-time-seen
returns-then-time-seen g c =
    let p : Parts = record { me = c.self.inside.me; clock = c.self.inside.clock; waiting = c.self.inside.waiting; expected = c.self.inside.inboxes.items; outs = outs_of c.self.inside.me c.self.inside.outboxes; copy = c.self.inside.copy; delivered = c.self.inside.delivered; unsettled = c.self.inside.unsettled; running = c.self.inside.running; calls = c.self.inside.calls } in
    let i = c.self.invariant in
    let peer : c.args.from < length c.self.inside.waiting.seen = let z = ap (λ (s : State). length s.peers) c.self.view_is in let y = c.requires.peer in let x = length-merged p.waiting.seen p.expected p.outs i.ins i.out in omega (arith, z, y, x) in
    let other : c.args.from ≡ c.self.inside.me → ⊥ = λ q. c.requires.other (q ∙ ap (λ (s : State). s.me) c.self.view_is) in
    let seen : c.in-Some.seen ≡ seen_at c.args.self.now c.args.from = seen_some p i c.args.from peer other c.in-Some.seen c.in-Some.ensures ∙ ap (λ (s : State). seen_at s c.args.from) c.self.view_is in
    late c.args.self.now c.args.from c.in-Some.seen c.body_time-time.result c.args.body.now (sym c.if-is_out.ensures) seen c.body_time-time.ensures c.if-time-seen.true

pub returns : goal.returns
returns g c =
    let p : Parts = record { me = c.self.inside.me; clock = c.self.inside.clock; waiting = c.self.inside.waiting; expected = c.self.inside.inboxes.items; outs = outs_of c.self.inside.me c.self.inside.outboxes; copy = c.self.inside.copy; delivered = c.self.inside.delivered; unsettled = c.self.inside.unsettled; running = c.self.inside.running; calls = c.self.inside.calls } in
    let i = c.self.invariant in
    let peer : c.args.from < length c.self.inside.waiting.seen = let z = ap (λ (s : State). length s.peers) c.self.view_is in let y = c.requires.peer in let x = length-merged p.waiting.seen p.expected p.outs i.ins i.out in omega (arith, z, y, x) in
    let other : c.args.from ≡ c.self.inside.me → ⊥ = λ q. c.requires.other (q ∙ ap (λ (s : State). s.me) c.self.view_is) in
    let seen : c.in-Some.seen ≡ seen_at c.args.self.now c.args.from = seen_some p i c.args.from peer other c.in-Some.seen c.in-Some.ensures ∙ ap (λ (s : State). seen_at s c.args.from) c.self.view_is in
    in_time c.args.self.now c.args.from c.in-Some.seen c.body_time-time.result c.args.body.now (sym c.if-is_out.ensures) seen c.body_time-time.ensures c.if-time-seen.false
