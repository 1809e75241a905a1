use Rattle.std.proofs.Common.{◌≤◌, replicate, sym, ap, subst, ◌∙◌}
use Rattle.reg_base.specs.declared.limits.TheConstants.{MOST_PROCESSES}
use Rattle.reg_process.specs.Parts.{nothing, state_of}
use Rattle.reg_process.specs.Queued.{outs_of}
use Rattle.reg_process.specs.Bounds.{Good}
use Rattle.reg_process.proofs.Again.{first_good, same_parts}
use Rattle.reg_process.proofs.parts.Core.new.Goals as goal

pub invariant_of-result : goal.invariant_of-result
invariant_of-result g c =
    let n = c.processes-processes.ensures in
    let few : c.args.shape.processes ≤ MOST_PROCESSES = subst (λ k. k ≤ MOST_PROCESSES) n.value n.in_range in
    subst Good
    (same_parts c.args.me c.args.shape.processes c.args.shape.registers c.new-clock.result c.in_ok-waiting.waiting c.in_ok-inboxes.inboxes.items (outs_of c.args.me c.in_ok-outboxes.outboxes) c.in_ok-copy.copy c.new-clock.ensures c.in_ok-waiting.ensures
    (c.in_ok-inboxes.ensures ∙ ap (λ k. replicate k 0) n.value) (c.in_ok-outboxes.ensures ∙ ap (λ k. replicate k nothing) n.value) (c.in_ok-copy.ensures ∙ ap (λ k. replicate k 0) c.registers-registers.ensures.value))
    (first_good c.args.me c.args.shape.processes c.args.shape.registers c.requires few)

pub returns : goal.returns
returns g c =
    let n = c.processes-processes.ensures in
    sym (ap state_of
    (same_parts c.args.me c.args.shape.processes c.args.shape.registers c.new-clock.result c.in_ok-waiting.waiting c.in_ok-inboxes.inboxes.items (outs_of c.args.me c.in_ok-outboxes.outboxes) c.in_ok-copy.copy c.new-clock.ensures c.in_ok-waiting.ensures
    (c.in_ok-inboxes.ensures ∙ ap (λ k. replicate k 0) n.value) (c.in_ok-outboxes.ensures ∙ ap (λ k. replicate k nothing) n.value) (c.in_ok-copy.ensures ∙ ap (λ k. replicate k 0) c.registers-registers.ensures.value)))
