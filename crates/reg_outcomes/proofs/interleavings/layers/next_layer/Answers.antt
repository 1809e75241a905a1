use Rattle.std.proofs.Common.{◌≤◌, ℕ, List, [], ◌∷◌, ◌++◌, inr, length, map, refl, ◌∙◌, subst}
use Rattle.std.specs.Prelude.{Vec}
use Rattle.std.proofs.lemmas.Result.{err_from_is_err_and}
use Rattle.reg_outcomes.specs.declared.interleavings.stages.Stage.{Stage as Held}
use Rattle.reg_outcomes.specs.Layers.{Adds, IsNextOf, IsNext, IsStep, Refuses, reached, stage_of, entries_of}
use Rattle.reg_outcomes.proofs.Adding.{adds_then, refuses_then}
use Rattle.reg_outcomes.proofs.Stepping.{among, in_more, next_cases, next_more, one_behind}
use Rattle.reg_outcomes.proofs.interleavings.layers.next_layer.Goals as goal

pub add_steps-requires-clause-ready : goal.add_steps-requires-clause-ready
add_steps-requires-clause-ready g c =
    let item : Held g.row.A.Denot × Vec ℕ g.row.A.Denot = (c.in-Some.stage, c.in-Some.turns) in
    let behind = one_behind c.loop-stage.yielded c.loop-stage.stage-iterator c.next.new.self c.args.layer.entries item c.loop-stage.invariant.split c.in-Some.ensures.steps in
    c.requires.ready (reached item) (among reached (c.loop-stage.yielded ++ item ∷ []) c.next.new.self c.args.layer.entries (reached item) behind (in_more reached c.loop-stage.yielded item (reached item) (inr refl)))

pub returns-in_err-add_steps-clause-refused : goal.returns-in_err-add_steps-clause-refused
returns-in_err-add_steps-clause-refused g c =
    let item : Held g.row.A.Denot × Vec ℕ g.row.A.Denot = (c.in-Some.stage, c.in-Some.turns) in
    let scripts = map (λ v. v.items) c.args.scripts.now in
    let layer = entries_of c.args.layer in
    let old = map reached c.loop-stage.yielded in
    let next = entries_of c.loop-stage.next.layer in
    let behind = one_behind c.loop-stage.yielded c.loop-stage.stage-iterator c.next.new.self c.args.layer.entries item c.loop-stage.invariant.split c.in-Some.ensures.steps in
    let p = err_from_is_err_and c.from_residual.result c.from_residual.ensures.1 in
    rw (p.1, p.2, ← c.loop-stage.invariant.kept)
    (refuses_then c.loop-stage.next.limit (IsNextOf scripts old) (IsNext scripts (reached item)) (IsNextOf scripts layer) [] next c.in_err-add_steps.field-0.0
    (λ f h. let n = next_more reached (IsStep scripts) c.loop-stage.yielded item f h in (n.0, among reached (c.loop-stage.yielded ++ item ∷ []) c.next.new.self c.args.layer.entries n.0 behind n.1, n.2))
    c.loop-stage.invariant.added
    (subst (λ (t : List ℕ). Refuses c.loop-stage.next.limit (IsNext scripts (stage_of c.in-Some.stage, t)) next c.in_err-add_steps.field-0.0) c.deref.ensures.value c.in_err-add_steps.ensures.refused))

pub loop-stage-preserved : goal.loop-stage-preserved
loop-stage-preserved g c =
    let item : Held g.row.A.Denot × Vec ℕ g.row.A.Denot = (c.in-Some.stage, c.in-Some.turns) in
    let scripts = map (λ v. v.items) c.args.scripts.now in
    let old = map reached c.loop-stage.yielded in
    let grown = c.add_steps.new.self in
    let next = entries_of c.loop-stage.next.layer in
    let now = entries_of grown.layer in
    record {
      split = one_behind c.loop-stage.yielded c.loop-stage.stage-iterator c.next.new.self c.args.layer.entries item c.loop-stage.invariant.split c.in-Some.ensures.steps;
      added = adds_then (IsNextOf scripts old) (IsNext scripts (reached item)) (IsNextOf scripts (map reached (c.loop-stage.yielded ++ item ∷ []))) [] next now
          (λ f h. next_more reached (IsStep scripts) c.loop-stage.yielded item f h) (λ f h. next_cases reached (IsStep scripts) c.loop-stage.yielded item f h)
          c.loop-stage.invariant.added
          (subst (λ (t : List ℕ). Adds (IsNext scripts (stage_of c.in-Some.stage, t)) next now) c.deref.ensures.value c.in_ok-add_steps.ensures.adds);
      narrow = subst (λ (limit : ℕ). length c.loop-stage.next.layer.entries ≤ limit → length grown.layer.entries ≤ limit) c.loop-stage.invariant.kept c.in_ok-add_steps.ensures.narrow c.loop-stage.invariant.narrow;
      kept = c.add_steps.ensures.limit ∙ c.loop-stage.invariant.kept;
    }
