use Rattle.std.proofs.Common.{Some, [], ap, sym, ◌∙◌, subst}
use Rattle.std.proofs.lemmas.Option.{slice_get-get_or}
use Rattle.reg_checkers.specs.History.{IsAt}
use Rattle.reg_outcomes.specs.Layers.{stage_cmp, stage_of}
use Rattle.reg_outcomes.specs.Walking.{Layers}
use Rattle.reg_outcomes.proofs.Comparing.{stages_exact, stages_total}
use Rattle.reg_outcomes.proofs.Entries.{found}
use Rattle.reg_outcomes.proofs.orders.failed.Failed.has.Goals as goal

pub returns-in-Some : goal.returns-in-Some
returns-in-Some g c = λ t.
    let layer = c.in-Some.layer.now in
    let lookup = c.in-Some.ensures.lookup in
    let at : IsAt c.deref.result.now c.args.placed layer = slice_get-get_or c.deref.result.now c.args.placed layer lookup.3.0 ∙ ap Some (sym lookup.1) in
    let there = found stage_of (λ v. []) stage_cmp stages_total stages_exact c.args.stage.now layer.entries (sym c.contains_key.ensures ∙ t) in
    (layer, there.0, subst (λ (l : Layers g.row.A.Denot). IsAt l c.args.placed layer) c.deref.ensures.value at, there.1, there.2)
