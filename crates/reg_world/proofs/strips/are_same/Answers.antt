use Rattle.std.proofs.Common.{refl, sym, ◌∙◌, arith}
use Rattle.std.proofs.lemmas.List.{take_all, take_more_same, get_or_default}
use Rattle.reg_world.proofs.strips.are_same.Goals as goal

pub loop-place-init : goal.loop-place-init
loop-place-init g c = refl

pub loop-place-preserved : goal.loop-place-preserved
loop-place-preserved g c =
    let some = c.args.some.now in
    let others = c.args.others.now in
    let place = c.loop-place.place in
    let x = c.index-some-place.result in
    let y = c.index-others-place.result in
    let l = c.loop-place-test.true in
    let size = c.requires in
    take_more_same some others place x l (omega (arith, l, size)) c.loop-place.invariant
    (sym c.index-some-place.is ∙ (c.if-not-is.ensures.0 refl ∙ (c.index-others-place.is ∙ get_or_default others place y x (omega (arith, l, size)))))

pub returns : goal.returns
returns g c = λ _.
    let some = c.args.some.now in
    let others = c.args.others.now in
    let end = c.loop-place-test.false in
    let size = c.requires in
    sym (take_all c.loop-place.place some end) ∙ (c.loop-place.invariant ∙ take_all c.loop-place.place others (omega (arith, end, size)))
