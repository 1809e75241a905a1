use Rattle.std.proofs.Common.{List, length, subst}
use Rattle.reg_process.specs.declared.events.Event.{Event}
use Rattle.reg_show.specs.Shorts.{KeepsAnswers, Shortens}
use Rattle.reg_show.proofs.short_schedules.short_form.Goals as goal

pub returns-clause-short : goal.returns-clause-short
returns-clause-short g c =
    let Keeps : List Event → Type 0 = KeepsAnswers g.F.FrontEnd.start c.args.shape c.args.entries.now in
    subst (λ (l : List Event). Shortens Keeps (length l) l c.in_ok-shorten.field-0.items) c.up_to_last-events.ensures c.in_ok-shorten.ensures
