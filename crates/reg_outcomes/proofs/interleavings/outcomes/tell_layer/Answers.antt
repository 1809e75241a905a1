use Rattle.std.proofs.Common.{◌≡◌, ℕ, List, [], ◌∷◌, ◌++◌, map}
use Rattle.std.specs.Prelude.{Vec}
use Rattle.reg_outcomes.specs.declared.told.ToldAnswer.{ToldAnswer}
use Rattle.reg_outcomes.specs.declared.interleavings.stages.Stage.{Stage as Held}
use Rattle.reg_outcomes.specs.Layers.{IsToldIn, reached, told_entries}
use Rattle.reg_outcomes.proofs.Adding.{adds_then}
use Rattle.reg_outcomes.proofs.Collecting.{told_cases, told_more}
use Rattle.reg_outcomes.proofs.Stepping.{one_behind}
use Rattle.reg_outcomes.proofs.interleavings.outcomes.tell_layer.Goals as goal

pub loop-stage-preserved : goal.loop-stage-preserved
loop-stage-preserved g c =
    let item : Held g.row.A.Denot × Vec ℕ g.row.A.Denot = (c.in-Some.stage, c.in-Some.turns) in
    let told : List ToldAnswer × List ℕ = (c.in-Some.stage.told.items, c.in-Some.turns.items) in (
      one_behind c.loop-stage.yielded c.loop-stage.stage-iterator c.next.new.self c.args.layer.entries item c.loop-stage.invariant.0 c.in-Some.ensures.steps,
      adds_then (IsToldIn (map reached c.loop-stage.yielded)) (λ o. o ≡ told) (IsToldIn (map reached (c.loop-stage.yielded ++ item ∷ []))) [] (told_entries c.loop-stage.outcomes) (told_entries c.add_outcome.new.outcomes)
          (λ o h. told_more reached c.loop-stage.yielded item o h) (λ o h. told_cases reached c.loop-stage.yielded item o h) c.loop-stage.invariant.1 c.in_ok-add_outcome.ensures,
    )
