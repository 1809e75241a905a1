use Rattle.std.proofs.Common.{◌≡◌, ℕ, List, ◌∷◌, ◌++◌, [], map, sym, ◌∙◌, arith}
use Rattle.std.proofs.lemmas.List.{length-map}
use Rattle.reg_outcomes.specs.Interleavings.{Stage}
use Rattle.reg_outcomes.specs.Layers.{IsStep, entries_of, stage_of}
use Rattle.reg_outcomes.proofs.Adding.{call_adds, call_refuses}
use Rattle.reg_outcomes.proofs.Stepping.{as_many, is_step, number_fits, step_is}
use Rattle.reg_outcomes.proofs.interleavings.layers.GrowingLayer.add_step.Goals as goal

pub next_op-requires-clause-process : goal.next_op-requires-clause-process
next_op-requires-clause-process g c =
    let many = as_many c.args.stage.now.next.items (map (λ v. v.items) c.args.scripts.now) c.requires.ready.within in
    let same = length-map c.args.scripts.now (λ v. v.items) in
    let process = c.requires.process in
    omega (arith, many, same, process)

pub after-requires-clause-process : goal.after-requires-clause-process
after-requires-clause-process g c =
    let many = as_many c.args.stage.now.next.items (map (λ v. v.items) c.args.scripts.now) c.requires.ready.within in
    let same = length-map c.args.scripts.now (λ v. v.items) in
    let process = c.requires.process in
    omega (arith, many, same, process)

pub after-requires-clause-number : goal.after-requires-clause-number
after-requires-clause-number g c = number_fits (map (λ v. v.items) c.args.scripts.now) (stage_of c.args.stage.now) c.args.process c.in-Some.op c.requires.ready (sym c.next_op.ensures ∙ c.in-Some.is)

pub returns-in_ok-later-in-Some-clause-adds : goal.returns-in_ok-later-in-Some-clause-adds
returns-in_ok-later-in-Some-clause-adds g c =
    let scripts = map (λ v. v.items) c.args.scripts.now in
    let from : Stage × List ℕ = (stage_of c.args.stage.now, c.args.turns.now) in
    let later = stage_of c.in_ok-later-in-Some.later in
    let at = sym c.next_op.ensures ∙ c.in-Some.is in
    call_adds (λ f. f ≡ (later, c.args.turns.now ++ c.args.process ∷ [])) (IsStep scripts c.args.process from) (entries_of c.args.self.now.layer) (entries_of c.add_stage.new.self.layer) c.add_stage.result
    (λ f e. is_step scripts c.args.process c.in-Some.op from f later at c.in_ok-later-in-Some.ensures e)
    (λ f step. step_is scripts c.args.process c.in-Some.op from f later at c.in_ok-later-in-Some.ensures step)
    c.add_stage.ensures.adds

pub returns-in_ok-later-in-Some-clause-refused : goal.returns-in_ok-later-in-Some-clause-refused
returns-in_ok-later-in-Some-clause-refused g c =
    let scripts = map (λ v. v.items) c.args.scripts.now in
    let from : Stage × List ℕ = (stage_of c.args.stage.now, c.args.turns.now) in
    let later = stage_of c.in_ok-later-in-Some.later in
    let at = sym c.next_op.ensures ∙ c.in-Some.is in
    call_refuses c.args.self.now.limit (λ f. f ≡ (later, c.args.turns.now ++ c.args.process ∷ [])) (IsStep scripts c.args.process from) (entries_of c.args.self.now.layer) c.add_stage.result
    (λ f e. is_step scripts c.args.process c.in-Some.op from f later at c.in_ok-later-in-Some.ensures e) c.add_stage.ensures.refused
