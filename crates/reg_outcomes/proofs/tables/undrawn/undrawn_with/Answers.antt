use Rattle.std.proofs.Common.{ap, sym, ◌∙◌}
use Rattle.reg_outcomes.specs.Interleavings.{Interleaving}
use Rattle.reg_outcomes.proofs.Absent.{absent_more, absent_same, never_drawn, was_drawn}
use Rattle.reg_outcomes.proofs.tables.undrawn.undrawn_with.Goals as goal

pub returns-then-contains_key-clause-counted : goal.returns-then-contains_key-clause-counted
returns-then-contains_key-clause-counted g c plays unfinished others counted before =
    absent_same plays others c.args.outcome.now c.args.undrawn
    (was_drawn (λ v. v.items) plays c.args.told.now unfinished counted c.outcome.inside.told c.args.outcome.now (ap (λ (i : Interleaving). i.told) c.outcome.view_is) (sym c.contains_key.ensures ∙ c.if-contains_key.true)) before

pub returns-else-contains_key-clause-counted : goal.returns-else-contains_key-clause-counted
returns-else-contains_key-clause-counted g c plays unfinished others counted before =
    absent_more plays others c.args.outcome.now c.args.undrawn
    (never_drawn (λ v. v.items) plays c.args.told.now unfinished counted c.outcome.inside.told c.args.outcome.now (ap (λ (i : Interleaving). i.told) c.outcome.view_is) (sym c.contains_key.ensures ∙ c.if-contains_key.false)) before
