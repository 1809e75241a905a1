use Rattle.std.proofs.Common.{◌∙◌, List, Vec, ap, length, subst, sym}
use Rattle.reg_checkers.specs.History.{IsAt}
use Rattle.reg_checkers.proofs.Noting.{read_at}
use Rattle.reg_judge.specs.declared.rulings.rows.Row.{Row}
use Rattle.reg_judge.specs.Rulings.{IsRuled}
use Rattle.reg_judge.proofs.Keying.{ruled_more, ruled_to}
use Rattle.reg_judge.proofs.rulings.keys.rule_all.Goals as goal

pub loop-part-preserved : goal.loop-part-preserved
loop-part-preserved g c =
    let P : List Row → Type 0 = λ rows. IsRuled c.args.processes rows c.in_ok-ruling.ruling in
    let part = c.part-item.result in
    ruled_more _ c.loop-part.part-index c.args.rows.now c.loop-part.rulings.items _ c.in_ok-ruling.ruling c.loop-part.invariant (subst P (c.deref.ensures.value ∙ c.in_ok-parts.ensures.1 c.loop-part.part-index part (subst (λ (l : List (Vec Row _)). IsAt l c.loop-part.part-index part) c.deref-part-items.ensures.value (read_at c.deref-part-items.result.now c.loop-part.part-index part part (sym c.part-item.is) c.loop-part-test.true))) c.in_ok-ruling.ensures) c.in_ok-push.ensures.items

pub returns : goal.returns
returns g c =
    ruled_to c.args.processes c.loop-part.part-index (length c.deref-part-items.result.now) c.args.keys c.args.rows.now c.loop-part.rulings.items c.loop-part-test.false c.loop-part.auto.part-index-end (ap length c.deref-part-items.ensures.value ∙ c.in_ok-parts.ensures.0) c.loop-part.invariant
