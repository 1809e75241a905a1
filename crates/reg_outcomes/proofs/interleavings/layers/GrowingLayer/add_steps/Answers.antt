use Rattle.std.proofs.Common.{◌≤◌, ℕ, ◌+◌, List, length, map, ◌∙◌, subst, arith}
use Rattle.std.proofs.lemmas.Result.{err_from_is_err_and}
use Rattle.std.proofs.lemmas.List.{length-map}
use Rattle.reg_outcomes.specs.Interleavings.{Stage}
use Rattle.reg_outcomes.specs.Layers.{IsFirstStep, IsNext, IsStep, stage_of, entries_of}
use Rattle.reg_outcomes.proofs.Adding.{adds_as, adds_then, refuses_then}
use Rattle.reg_outcomes.proofs.Stepping.{one_more_step, some_step, step_cases, within_steps}
use Rattle.reg_outcomes.proofs.interleavings.layers.GrowingLayer.add_steps.Goals as goal

pub returns-in_err-add_step-clause-refused : goal.returns-in_err-add_step-clause-refused
returns-in_err-add_step-clause-refused g c =
    let scripts = map (λ v. v.items) c.args.scripts.now in
    let from : Stage × List ℕ = (stage_of c.args.stage.now, c.args.turns.now) in
    let n = c.loop-process.process in
    let p = err_from_is_err_and c.from_residual.result c.from_residual.ensures.1 in
    rw (p.1, p.2, ← c.loop-process.invariant.limit)
    (refuses_then c.loop-process.self.limit (IsFirstStep scripts n from) (IsStep scripts n from) (IsNext scripts from) (entries_of c.args.self.now.layer) (entries_of c.loop-process.self.layer) c.in_err-add_step.field-0.0
    (λ f h. some_step (IsStep scripts) n from f h) c.loop-process.invariant.added c.in_err-add_step.ensures.refused)

pub loop-process-preserved : goal.loop-process-preserved
loop-process-preserved g c =
    let scripts = map (λ v. v.items) c.args.scripts.now in
    let from : Stage × List ℕ = (stage_of c.args.stage.now, c.args.turns.now) in
    let n = c.loop-process.process in
    let old = c.loop-process.invariant in
    record {
      added = adds_then (IsFirstStep scripts n from) (IsStep scripts n from) (IsFirstStep scripts (n + 1) from) (entries_of c.args.self.now.layer) (entries_of c.loop-process.self.layer) (entries_of c.add_step.new.self.layer)
          (λ f h. one_more_step (IsStep scripts) n from f h) (λ f h. step_cases (IsStep scripts) n from f h) old.added c.in_ok-add_step.ensures.adds;
      narrow = λ few. subst (λ (limit : ℕ). length c.loop-process.self.layer.entries ≤ limit → length c.add_step.new.self.layer.entries ≤ limit) old.limit c.in_ok-add_step.ensures.narrow (old.narrow few);
      limit = c.add_step.ensures.limit ∙ old.limit;
    }

pub returns-clause-adds : goal.returns-clause-adds
returns-clause-adds g c =
    let scripts = map (λ v. v.items) c.args.scripts.now in
    let from : Stage × List ℕ = (stage_of c.args.stage.now, c.args.turns.now) in
    let n = c.loop-process.process in
    let same = length-map c.args.scripts.now (λ v. v.items) in
    adds_as (IsFirstStep scripts n from) (IsNext scripts from) (entries_of c.args.self.now.layer) (entries_of c.loop-process.self.layer)
    (λ f h. (h.0, h.2)) (λ f h. within_steps scripts n from f (omega (arith, same)) h) c.loop-process.invariant.added
