use Rattle.reg_base.specs.declared.limits.TheConstants.{MOST_OPERATIONS}
use Rattle.std.proofs.Common.{◌≡◌, ◌<◌, ◌≤◌, ◌+◌, length, refl, sym, ap, subst, arith}
use Rattle.reg_base.specs.Memory.{register_of}
use Rattle.reg_process.specs.Process.{State}
use Rattle.reg_base.specs.declared.limits.TheConstants.{LAST_TIME}
use Rattle.reg_process.specs.Parts.{Parts, state_of}
use Rattle.reg_process.specs.Bounds.{Good}
use Rattle.reg_process.specs.Queued.{outs_of}
use Rattle.reg_process.specs.Sending.{puts_of}
use Rattle.reg_process.proofs.Pending.{has_numbers}
use Rattle.reg_process.specs.Steps.{MakesCast}
use Rattle.reg_process.proofs.Sending.{grown_good, none_later, made_cast_good, made_cast_makes}
use Rattle.reg_holdback.specs.Waiting.{Waiting}
use Rattle.reg_process.proofs.parts.Core.cast.Goals as goal

pub invariant_of-self-in_default-queue_on_all : goal.invariant_of-self-in_default-queue_on_all
invariant_of-self-in_default-queue_on_all g c =
    let p : Parts = record { me = c.self.inside.me; clock = c.self.inside.clock; waiting = c.self.inside.waiting; expected = c.self.inside.inboxes.items; outs = outs_of c.self.inside.me c.self.inside.outboxes; copy = c.self.inside.copy; delivered = c.self.inside.delivered; unsettled = c.self.inside.unsettled; running = c.self.inside.running; calls = c.self.inside.calls } in
    let t = c.in-Ok.ensures.answer in
    let k = c.in-Ok.ensures.after in
    let up : c.self.inside.clock < c.tick.new.self = omega (arith, k) in
    let top : c.tick.new.self ≤ LAST_TIME = let z = t.0 in omega (arith, k, z) in
    grown_good p c.self.invariant c.tick.new.self (outs_of c.self.inside.me c.queue_on_all.new.outboxes) up top c.queue_on_all.ensures.grown c.queue_on_all.ensures.length

pub cast-requires-clause-latest : goal.cast-requires-clause-latest
cast-requires-clause-latest g c =
    let p : Parts = record { me = c.self.inside.me; clock = c.self.inside.clock; waiting = c.self.inside.waiting; expected = c.self.inside.inboxes.items; outs = outs_of c.self.inside.me c.self.inside.outboxes; copy = c.self.inside.copy; delivered = c.self.inside.delivered; unsettled = c.self.inside.unsettled; running = c.self.inside.running; calls = c.self.inside.calls } in
    let b = c.in-Ok.ensures.answer in
    let up : c.self.inside.clock < c.in-Ok.time = let z = b.1 in omega (arith, z) in
    none_later p c.self.invariant (record { time = c.in-Ok.time; process = c.self.inside.me }) refl up

pub invariant_of-self-in_default-cast : goal.invariant_of-self-in_default-cast
invariant_of-self-in_default-cast g c =
    let p : Parts = record { me = c.self.inside.me; clock = c.self.inside.clock; waiting = c.self.inside.waiting; expected = c.self.inside.inboxes.items; outs = outs_of c.self.inside.me c.self.inside.outboxes; copy = c.self.inside.copy; delivered = c.self.inside.delivered; unsettled = c.self.inside.unsettled; running = c.self.inside.running; calls = c.self.inside.calls } in
    let t = c.in-Ok.ensures.answer in
    let k = c.in-Ok.ensures.after in
    let up : c.self.inside.clock < c.tick.new.self = omega (arith, k) in
    let top : c.tick.new.self ≤ LAST_TIME = let z = t.0 in omega (arith, k, z) in
    let same : c.self.inside.waiting ≡ c.cast.new.self = sym c.in_default-cast.ensures in
    subst (λ (w : Waiting). Good (record p { clock = c.tick.new.self; waiting = w; outs = (outs_of c.self.inside.me c.queue_on_all.new.outboxes) })) same
    (grown_good p c.self.invariant c.tick.new.self (outs_of c.self.inside.me c.queue_on_all.new.outboxes) up top c.queue_on_all.ensures.grown c.queue_on_all.ensures.length)

pub invariant_of-self-2 : goal.invariant_of-self-2
invariant_of-self-2 g c =
    let p : Parts = record { me = c.self.inside.me; clock = c.self.inside.clock; waiting = c.self.inside.waiting; expected = c.self.inside.inboxes.items; outs = outs_of c.self.inside.me c.self.inside.outboxes; copy = c.self.inside.copy; delivered = c.self.inside.delivered; unsettled = c.self.inside.unsettled; running = c.self.inside.running; calls = c.self.inside.calls } in
    let t = c.in-Ok.ensures.answer in
    let k = c.in-Ok.ensures.after in
    let few : c.self.inside.calls < MOST_OPERATIONS = let z = ap (λ (s : State). s.calls) c.self.view_is in let y = c.requires.calls in omega (arith, z, y) in
    let register : register_of c.args.op < length c.self.inside.copy = let z = ap (λ (s : State). length s.copy) c.self.view_is in let y = c.requires.register in omega (arith, z, y) in
    made_cast_good p c.self.invariant c.args.op c.args.runs t.0 few register c.in-Ok.time c.tick.new.self c.cast.new.self (outs_of c.self.inside.me c.queue_on_all.new.outboxes) c.own-self-inside.result (puts_of c.queue_on_all.new.sends) t.1 k c.in-Ok-cast.ensures c.in-Ok-queue_on_all.ensures.queued c.own-self-inside.ensures c.in-Ok-queue_on_all.ensures.frames c.queue_on_all.ensures.grown c.queue_on_all.ensures.length

pub returns : goal.returns
returns g c =
    let p : Parts = record { me = c.self.inside.me; clock = c.self.inside.clock; waiting = c.self.inside.waiting; expected = c.self.inside.inboxes.items; outs = outs_of c.self.inside.me c.self.inside.outboxes; copy = c.self.inside.copy; delivered = c.self.inside.delivered; unsettled = c.self.inside.unsettled; running = c.self.inside.running; calls = c.self.inside.calls } in
    let t = c.in-Ok.ensures.answer in
    let k = c.in-Ok.ensures.after in
    let few : c.self.inside.calls < MOST_OPERATIONS = let z = ap (λ (s : State). s.calls) c.self.view_is in let y = c.requires.calls in omega (arith, z, y) in
    let register : register_of c.args.op < length c.self.inside.copy = let z = ap (λ (s : State). length s.copy) c.self.view_is in let y = c.requires.register in omega (arith, z, y) in
    subst (λ (s : State). MakesCast s c.args.op c.args.runs (record { time = c.in-Ok.time; process = c.self.inside.me }) (puts_of c.queue_on_all.new.sends) (state_of (record p { clock = c.tick.new.self; waiting = c.cast.new.self; outs = (outs_of c.self.inside.me c.queue_on_all.new.outboxes); unsettled = c.self.inside.unsettled + 1; running = c.own-self-inside.result; calls = c.self.inside.calls + 1 }))) c.self.view_is
    (made_cast_makes p c.self.invariant c.args.op c.args.runs t.0 few register c.in-Ok.time c.tick.new.self c.cast.new.self (outs_of c.self.inside.me c.queue_on_all.new.outboxes) c.own-self-inside.result (puts_of c.queue_on_all.new.sends) t.1 k c.in-Ok-cast.ensures c.in-Ok-queue_on_all.ensures.queued c.own-self-inside.ensures c.in-Ok-queue_on_all.ensures.frames c.queue_on_all.ensures.grown c.queue_on_all.ensures.length)

pub queue_on_all-requires-clause-numbers : goal.queue_on_all-requires-clause-numbers
queue_on_all-requires-clause-numbers g c =
    let p : Parts = record { me = c.self.inside.me; clock = c.self.inside.clock; waiting = c.self.inside.waiting; expected = c.self.inside.inboxes.items; outs = outs_of c.self.inside.me c.self.inside.outboxes; copy = c.self.inside.copy; delivered = c.self.inside.delivered; unsettled = c.self.inside.unsettled; running = c.self.inside.running; calls = c.self.inside.calls } in
    let t = c.in-Ok.ensures.answer in
    has_numbers p c.self.invariant (let z = t.0 in omega (arith, z))
