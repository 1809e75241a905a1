use Rattle.std.proofs.Common.{ℕ, List, length, ap, ◌∙◌, subst, arith, IsTrue, refl}
use Rattle.std.specs.Prelude.{slice_index}
use Rattle.reg_base.specs.Memory.{answer_of}
use Rattle.reg_checkers.specs.Facts.{IsFactOf}
use Rattle.reg_checkers.specs.Progress.{op_of}
use Rattle.reg_checkers.proofs.Placing.{no_truth}
use Rattle.reg_outcomes.specs.Finding.{MayFollow, placed_after}
use Rattle.reg_outcomes.specs.Layers.{stage_of}
use Rattle.reg_outcomes.proofs.Placed.{comes_here, in_bounds, is_placed, not_placed}
use Rattle.reg_outcomes.proofs.orders.choices.placeable.Goals as goal

pub returns-in_default-clause-placed : goal.returns-in_default-clause-placed
returns-in_default-clause-placed g c =
    let s = c.args.finder.now in
    let p = c.args.process in
    let is = c.next_number-number.ensures ∙ ap (λ (l : List ℕ). slice_index l p) c.deref.ensures.value in
    not_placed s.kind s.entries p c.next_number-number.result (stage_of c.args.stage.now) is c.in_default.ensures.value

pub answer_on-answer-requires : goal.answer_on-answer-requires
answer_on-answer-requires g c =
    let s = c.args.finder.now in
    let fact = c.in-Some.fact in
    let l = (in_bounds s.kind s.shape.processes s.shape.registers s.entries c.fact.ensures.in_place (op_of c.args.process c.next_number-number.result) fact.called fact.op c.in-Some.ensures.value.called).1 in
    let size = c.requires.room.memory in
    let same = ap length c.deref-2.ensures.value in
    omega (arith, l, size, same)

pub returns-then-not-may_come-clause-placed : goal.returns-then-not-may_come-clause-placed
returns-then-not-may_come-clause-placed g c =
    let s = c.args.finder.now in
    let p = c.args.process in
    let fact = c.in-Some.fact in
    let is = c.next_number-number.ensures ∙ ap (λ (l : List ℕ). slice_index l p) c.deref.ensures.value in
    let given = c.answer_on-answer.ensures ∙ ap (answer_of fact.op) c.deref-2.ensures.value in
    let comes = c.may_come.ensures s.shape.processes s.shape.registers s.entries (op_of p c.next_number-number.result) c.fact.ensures.in_place c.in-Some.ensures.value in
    λ to step. no_truth (subst IsTrue c.if-not-may_come.true (comes.1
    (comes_here s.kind s.shape.processes s.shape.registers s.entries c.fact.ensures.in_place p c.next_number-number.result (stage_of c.args.stage.now) to fact.called fact.op c.answer_on-answer.result is given c.in-Some.ensures.value.called step)))

pub returns-clause-placed : goal.returns-clause-placed
returns-clause-placed g c =
    let s = c.args.finder.now in
    let p = c.args.process in
    let fact = c.in-Some.fact in
    let from = stage_of c.args.stage.now in
    let number = c.next_number-number.result in
    let is = c.next_number-number.ensures ∙ ap (λ (l : List ℕ). slice_index l p) c.deref.ensures.value in
    let given = c.answer_on-answer.ensures ∙ ap (answer_of fact.op) c.deref-2.ensures.value in
    let comes = c.may_come.ensures s.shape.processes s.shape.registers s.entries (op_of p number) c.fact.ensures.in_place c.in-Some.ensures.value in
    let follows = subst (λ (l : List ℕ). MayFollow s.kind s.entries l (op_of p number)) c.deref-3.ensures.value (c.may_follow.ensures.0 c.if-not-may_follow.false) in
    is_placed s.kind s.entries p number from is (placed_after p fact.op from) fact.called fact.op c.answer_on-answer.result given c.in-Some.ensures.value.called (comes.0 c.if-not-may_come.false) follows refl

pub returns-clause-fact : goal.returns-clause-fact
returns-clause-fact g c =
    let s = c.args.finder.now in
    let is = c.next_number-number.ensures ∙ ap (λ (l : List ℕ). slice_index l c.args.process) c.deref.ensures.value in
    subst (λ (m : ℕ). IsFactOf s.entries (op_of c.args.process m) c.in-Some.fact) is c.in-Some.ensures.value
