use Rattle.std.proofs.Common.{◌≡◌, ◌∙◌, ◌≤◌, ◌+◌, ◌-◌, ℕ, sym, ap, subst, arith, length}
use Rattle.std.proofs.lemmas.Option.{slice_get_within}
use Rattle.std.proofs.lemmas.Result.{err_from_is_err_and}
use Rattle.reg_world.specs.Nodes.{Node}
use Rattle.reg_process.specs.declared.events.Event.TheVariants.{Take}
use Rattle.reg_records.specs.RestParts.{link_in, Passing}
use Rattle.reg_records.proofs.GoingOn.{few_going}
use Rattle.reg_records.proofs.Passing.{end_is, passes_none, passing_none, passing_more, passed_on, passing_halts}
use Rattle.reg_records.proofs.resting.pass_on.Given.{Over}
use Rattle.reg_records.proofs.resting.pass_on.Goals as goal

pub returns-then-count-eq0 : goal.returns-then-count-eq0
returns-then-count-eq0 g c = λ passed A.
    passes_none g.F.FrontEnd.start passed c.args.from c.args.to c.args.world.now c.requires.on (sym c.again_count-count.ensures ∙ c.if-count-eq0.true)

pub overflow_step-number : goal.overflow_step-number
overflow_step-number g c =
    let old = c.args.world.now in
    let e = end_is g.F.FrontEnd.start (λ _ _. 0) c.args.from c.args.to old c.requires.from c.requires.to c.requires.apart c.requires.again old in
    let a = c.again_count-count.ensures in
    let b = c.frame_count-end.ensures in
    omega (arith, e, a, b)

pub loop-number-init : goal.loop-number-init
loop-number-init g c = λ passed A.
    let old = c.args.world.now in
    let start = g.F.FrontEnd.start in
    let x = c.frame_count-end.result - c.again_count-count.result in
    let e : 0 ≡ x - x = omega arith in
    subst (λ done. Passing start passed old c.args.from c.args.to (link_in start old c.args.from c.args.to).first done 0 old) e
    (passing_none start passed c.args.from c.args.to old c.requires.from c.requires.to c.requires.apart 0 c.requires.on)

pub take-requires-clause-on : goal.take-requires-clause-on
take-requires-clause-on g c = (c.loop-number.invariant (λ _ _. 0) c.requires.again).moves.on

pub take-requires-clause-from : goal.take-requires-clause-from
take-requires-clause-from g c = let e = (c.loop-number.invariant (λ _ _. 0) c.requires.again).moves.processes in let l = c.requires.from in omega (arith, e, l)

pub take-requires-clause-to : goal.take-requires-clause-to
take-requires-clause-to g c = let e = (c.loop-number.invariant (λ _ _. 0) c.requires.again).moves.processes in let l = c.requires.to in omega (arith, e, l)

pub take-requires-clause-there : goal.take-requires-clause-there
take-requires-clause-there g c =
    let same = ap (λ (z : Node). length (z.wire c.args.to)) (c.loop-number.invariant (λ _ _. 0) c.requires.again).same in
    let e = c.frame_count-end.ensures in
    let l = c.loop-number-test.true in
    omega (arith, same, e, l)

pub returns-in_err-answer : goal.returns-in_err-answer
returns-in_err-answer g c = λ passed A.
    let start = g.F.FrontEnd.start in
    let old = c.args.world.now in
    let P = c.loop-number.invariant passed A in
    let a = c.again_count-count.ensures in
    let b = c.if-count-eq0.false in
    let l = c.loop-number-test.true in
    let p = err_from_is_err_and c.from_residual.result c.from_residual.ensures.1 in
    rw (p.1, p.2) (passing_halts start passed c.args.from c.args.to old c.requires.from c.requires.to c.requires.apart A c.loop-number.world (c.loop-number.number - (c.frame_count-end.result - c.again_count-count.result)) c.loop-number.answer c.take.new.world (Take c.args.from c.args.to c.loop-number.number) c.in_err-answer.field-0.0 P (omega (arith, a, l)) (omega (arith, a, b)) (few_going start c.loop-number.world P.moves.on) c.in_err-answer.ensures.made)

pub loop-number-preserved : goal.loop-number-preserved
loop-number-preserved g c = λ passed A.
    let start = g.F.FrontEnd.start in
    let old = c.args.world.now in
    let mid = c.loop-number.world in
    let number = c.loop-number.number in
    let below = c.frame_count-end.result - c.again_count-count.result in
    let from_below = c.loop-number.auto.number in
    let a = c.again_count-count.ensures in
    let b = c.frame_count-end.ensures in
    let e = end_is start passed c.args.from c.args.to old c.requires.from c.requires.to c.requires.apart A old in
    let l = c.loop-number-test.true in
    let q : number - below + 1 ≡ number + 1 - below = omega (arith, from_below) in
    subst (λ done. Passing start passed old c.args.from c.args.to (link_in start old c.args.from c.args.to).first done c.in_ok-answer.answer c.take.new.world) q
    (passing_more start passed c.args.from c.args.to old c.requires.from c.requires.to c.requires.apart A mid (number - below) number c.loop-number.answer c.in_ok-answer.answer c.take.new.world (c.loop-number.invariant passed A) (omega (arith, from_below, a, l)) (omega (arith, from_below, a, b, e)) c.in_ok-answer.ensures.answer c.in_ok-answer.ensures.made)

pub take-requires-2-clause-on : goal.take-requires-2-clause-on
take-requires-2-clause-on g c = (c.loop-number.invariant (λ _ _. 0) c.requires.again).moves.on

pub take-requires-2-clause-from : goal.take-requires-2-clause-from
take-requires-2-clause-from g c = let e = (c.loop-number.invariant (λ _ _. 0) c.requires.again).moves.processes in let l = c.requires.to in omega (arith, e, l)

pub take-requires-2-clause-to : goal.take-requires-2-clause-to
take-requires-2-clause-to g c = let e = (c.loop-number.invariant (λ _ _. 0) c.requires.again).moves.processes in let l = c.requires.from in omega (arith, e, l)

-- at the end all were taken
all_taken : (number end count : ℕ) → end - count ≤ number → (end - count ≤ end → number ≤ end) → end ≤ number
    → count ≤ end → number - (end - count) ≡ count
all_taken number end count a b l w = let m = b (omega arith) in omega (arith, a, m, l, w)

taken_all : (g : Over) (c : goal.After-take-arg-2-1 g)
    → c.loop-number.number - (c.frame_count-end.result - c.again_count-count.result) ≡ c.again_count-count.result
taken_all g c =
    let e = end_is g.F.FrontEnd.start (λ _ _. 0) c.args.from c.args.to c.args.world.now c.requires.from c.requires.to c.requires.apart c.requires.again c.args.world.now in
    let a = c.again_count-count.ensures in
    let b = c.frame_count-end.ensures in
    all_taken c.loop-number.number c.frame_count-end.result c.again_count-count.result c.loop-number.auto.number c.loop-number.auto.number-end c.loop-number-test.false (omega (arith, e, a, b))

pub take-requires-2-clause-there : goal.take-requires-2-clause-there
take-requires-2-clause-there g c =
    let all = taken_all g c in
    let b = c.if-count-eq0.false in
    let P = c.loop-number.invariant (λ _ _. 0) c.requires.again in
    slice_get_within _ c.loop-number.answer _ (P.answered (omega (arith, all, b)))

pub returns-in_err-take : goal.returns-in_err-take
returns-in_err-take g c = λ passed A.
    let start = g.F.FrontEnd.start in
    let old = c.args.world.now in
    let P = c.loop-number.invariant passed A in
    let e = end_is start passed c.args.from c.args.to old c.requires.from c.requires.to c.requires.apart A old in
    let a = c.again_count-count.ensures in
    let f = c.frame_count-end.ensures in
    let b = c.if-count-eq0.false in
    let all = all_taken c.loop-number.number c.frame_count-end.result c.again_count-count.result c.loop-number.auto.number c.loop-number.auto.number-end c.loop-number-test.false (omega (arith, e, a, f)) in
    let p = err_from_is_err_and c.from_residual-in_err-take.result c.from_residual-in_err-take.ensures.1 in
    rw (p.1, p.2) (passing_halts start passed c.args.from c.args.to old c.requires.from c.requires.to c.requires.apart A c.loop-number.world (c.loop-number.number - (c.frame_count-end.result - c.again_count-count.result)) c.loop-number.answer c.take-2.new.world (Take c.args.to c.args.from c.loop-number.answer) c.in_err-take.field-0.0 P (omega (arith, a, all)) (omega (arith, a, b)) (few_going start c.loop-number.world P.moves.on) c.in_err-take.ensures.made)

pub returns : goal.returns
returns g c = λ passed A.
    let start = g.F.FrontEnd.start in
    let old = c.args.world.now in
    let e = end_is start passed c.args.from c.args.to old c.requires.from c.requires.to c.requires.apart A old in
    let a = c.again_count-count.ensures in
    let f = c.frame_count-end.ensures in
    let b = c.if-count-eq0.false in
    let all = all_taken c.loop-number.number c.frame_count-end.result c.again_count-count.result c.loop-number.auto.number c.loop-number.auto.number-end c.loop-number-test.false (omega (arith, e, a, f)) in
    passed_on start passed c.args.from c.args.to old c.requires.from c.requires.to c.requires.apart A c.loop-number.world (c.loop-number.number - (c.frame_count-end.result - c.again_count-count.result)) c.loop-number.answer c.take-2.new.world (c.loop-number.invariant passed A) (omega (arith, a, all)) (omega (arith, b, all)) c.in_ok-take.ensures.made
