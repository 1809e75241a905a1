use Rattle.std.proofs.Common.{◌-◌, ◌+◌, ap, subst, ◌∙◌}
use Rattle.reg_process.specs.Process.{State}
use Rattle.reg_holdback.specs.Waiting.{Waiting}
use Rattle.reg_process.specs.Parts.{Parts, state_of}
use Rattle.reg_process.specs.Queued.{outs_of}
use Rattle.reg_process.specs.Steps.{DeliversOne, DeliversNone}
use Rattle.reg_process.proofs.Deliveries.{made_good, made_one, delivers_none, ready_well}
use Rattle.reg_process.proofs.parts.Core.deliver_one.Goals as goal

pub settle-reply-requires-clause-register : goal.settle-reply-requires-clause-register
settle-reply-requires-clause-register g c =
    let p : Parts = record { me = c.self.inside.me; clock = c.self.inside.clock; waiting = c.self.inside.waiting; expected = c.self.inside.inboxes.items; outs = outs_of c.self.inside.me c.self.inside.outboxes; copy = c.self.inside.copy; delivered = c.self.inside.delivered; unsettled = c.self.inside.unsettled; running = c.self.inside.running; calls = c.self.inside.calls } in
    ready_well p c.self.invariant (record { stamp = c.in-Some.stamp; op = c.in-Some.op }) c.in-Some.ensures.answer

pub invariant_of-self-2 : goal.invariant_of-self-2
invariant_of-self-2 g c =
    let p : Parts = record { me = c.self.inside.me; clock = c.self.inside.clock; waiting = c.self.inside.waiting; expected = c.self.inside.inboxes.items; outs = outs_of c.self.inside.me c.self.inside.outboxes; copy = c.self.inside.copy; delivered = c.self.inside.delivered; unsettled = c.self.inside.unsettled; running = c.self.inside.running; calls = c.self.inside.calls } in
    made_good p c.self.invariant (record { stamp = c.in-Some.stamp; op = c.in-Some.op }) c.pop.new.self c.settle-reply.new.copy c.from.result c.settle-reply.result c.end_answered.new.running c.in-Some.ensures.answer c.in-Some.ensures.after c.from.ensures c.settle-reply.ensures.copy c.settle-reply.ensures.reply c.end_answered.ensures

pub returns : goal.returns
returns g c =
    let p : Parts = record { me = c.self.inside.me; clock = c.self.inside.clock; waiting = c.self.inside.waiting; expected = c.self.inside.inboxes.items; outs = outs_of c.self.inside.me c.self.inside.outboxes; copy = c.self.inside.copy; delivered = c.self.inside.delivered; unsettled = c.self.inside.unsettled; running = c.self.inside.running; calls = c.self.inside.calls } in
    subst (λ (s : State). DeliversOne s (record { stamp = c.in-Some.stamp; op = c.in-Some.op }) c.settle-reply.result (state_of (record p { waiting = c.pop.new.self; copy = c.settle-reply.new.copy; delivered = c.self.inside.delivered + 1; unsettled = c.self.inside.unsettled - c.from.result; running = c.end_answered.new.running }))) c.self.view_is
    (made_one p c.self.invariant (record { stamp = c.in-Some.stamp; op = c.in-Some.op }) c.pop.new.self c.settle-reply.new.copy c.from.result c.settle-reply.result c.end_answered.new.running c.in-Some.ensures.answer c.in-Some.ensures.after c.from.ensures c.settle-reply.ensures.copy c.settle-reply.ensures.reply c.end_answered.ensures c.pop.ensures.rising)

pub returns-in_default : goal.returns-in_default
returns-in_default g c =
    let p : Parts = record { me = c.self.inside.me; clock = c.self.inside.clock; waiting = c.self.inside.waiting; expected = c.self.inside.inboxes.items; outs = outs_of c.self.inside.me c.self.inside.outboxes; copy = c.self.inside.copy; delivered = c.self.inside.delivered; unsettled = c.self.inside.unsettled; running = c.self.inside.running; calls = c.self.inside.calls } in
    (subst DeliversNone c.self.view_is (delivers_none p c.self.invariant c.pop.ensures.rising c.in_default.ensures.answer), ap (λ (w : Waiting). state_of (record p { waiting = w })) c.in_default.ensures.after ∙ c.self.view_is)
