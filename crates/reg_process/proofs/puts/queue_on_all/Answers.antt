use Rattle.std.proofs.Common.{sym, ◌∙◌, arith}
use Rattle.reg_process.proofs.Outs.{length-outs, sent_all}
use Rattle.reg_process.proofs.puts.queue_on_all.Goals as goal

pub queue_for_others-requires-clause-me : goal.queue_for_others-requires-clause-me
queue_for_others-requires-clause-me g c =
    let n = length-outs c.args.me c.args.outboxes.now in let h = c.requires.me in omega (arith, n, h)

pub overflow_cast-processes : goal.overflow_cast-processes
overflow_cast-processes g c = let n = length-outs c.args.me c.args.outboxes.now in let e = c.processes-processes.ensures in let h = c.requires.few in omega (arith, n, e, h)

pub returns-clause-length : goal.returns-clause-length
returns-clause-length g c = length-outs c.args.me c.queue_for_others.new.outboxes ∙ c.queue_for_others.ensures.processes ∙ sym (length-outs c.args.me c.args.outboxes.now)

pub returns-in_err-number-clause-length : goal.returns-in_err-number-clause-length
returns-in_err-number-clause-length g c = length-outs c.args.me c.queue_for_others.new.outboxes ∙ c.queue_for_others.ensures.processes ∙ sym (length-outs c.args.me c.args.outboxes.now)

pub returns-clause-frames : goal.returns-clause-frames
returns-clause-frames g c =
    sent_all c.args.got c.args.me c.in_ok-number.number c.args.body c.args.outboxes.now c.processes-processes.result c.processes-processes.ensures c.in_ok-number.ensures.number
