use Rattle.std.proofs.Common.{◌≡◌, length, ap, ◌∙◌, arith}
use Rattle.reg_links.specs.Link.{refusal_of}
use Rattle.reg_process.proofs.Outs.{outs_queued, outs_grown, none_queued, not_all_used}
use Rattle.reg_process.proofs.Pending.{not_full}
use Rattle.reg_process.proofs.puts.queue_for_others.Goals as goal

pub returns-then-processes-eq1-clause-queued : goal.returns-then-processes-eq1-clause-queued
returns-then-processes-eq1-clause-queued g c =
    let one : length c.args.outboxes.now.counts ≡ 1 = let e = c.processes.ensures in let t = c.if-processes-eq1.true in omega (arith, e, t) in
    none_queued c.args.me c.args.body c.args.outboxes.now c.requires.me one

pub unreachable-requires : goal.unreachable-requires
unreachable-requires g c =
    let many : length c.args.outboxes.now.counts ≡ 1 → ⊥ = λ q. c.if-processes-eq1.false (c.processes.ensures ∙ q) in
    not_full c.args.outboxes.now (not_all_used c.args.me c.args.outboxes.now c.requires.me many c.requires.numbers c.queue.ensures.links) (c.in-Err-NumberFull.ensures.answer.0 ∙ ap refusal_of c.in-Err-NumberFull.field-0-is)

pub returns-in-Ok-clause-queued : goal.returns-in-Ok-clause-queued
returns-in-Ok-clause-queued g c = outs_queued c.args.me c.args.body c.args.outboxes.now c.queue.new.self c.in-Ok.number c.in-Ok.ensures.answer.1 c.queue.ensures.processes

pub returns-in-Ok-clause-grown : goal.returns-in-Ok-clause-grown
returns-in-Ok-clause-grown g c = outs_grown c.args.me c.args.body c.args.outboxes.now c.queue.new.self c.in-Ok.number c.in-Ok.ensures.answer.1 c.queue.ensures.processes
