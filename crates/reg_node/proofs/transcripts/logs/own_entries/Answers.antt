use Rattle.std.proofs.Common.{sym, ap, ◌∙◌, map}
use Rattle.reg_node.proofs.Owned.{all_owned, entries_of, process_at}
use Rattle.reg_node.proofs.transcripts.logs.own_entries.Goals as goal

pub returns-then-step-process-clause-whole : goal.returns-then-step-process-clause-whole
returns-then-step-process-clause-whole g c = λ es e.
    let is = process_at c.args.process es c.args.steps.now c.loop-place.place _ e c.loop-place-test.true in
    absurd (c.if-step-process.true is)

pub returns-clause-whole : goal.returns-clause-whole
returns-clause-whole g c = λ es e.
    let read = all_owned c.args.process c.args.steps.now c.loop-place.place c.loop-place.entries.items c.loop-place.invariant c.loop-place-test.false in
    sym (entries_of c.args.process c.loop-place.entries.items) ∙ ap (map (λ r. r.entry)) (sym read ∙ e) ∙ entries_of c.args.process es
