use Rattle.std.proofs.Common.{List, [], ◌∷◌, ◌++◌, get_or, ap, ◌∙◌}
use Rattle.std.specs.Prelude.{Vec}
use Rattle.reg_text.proofs.Sent.{puts_as}
use Rattle.reg_outcomes.specs.declared.told.ToldAnswer.{ToldAnswer}
use Rattle.reg_outcomes.proofs.Writing.{all_lists, puts_next}
use Rattle.reg_outcomes.specs.AllText.{values_text}
use Rattle.reg_outcomes.proofs.interleavings.text.put_list.Goals as goal

pub loop-values-preserved : goal.loop-values-preserved
loop-values-preserved g c =
    let held = g.W.Write.contents in
    let here : Vec ToldAnswer g.row.A.Denot = get_or c.args.list.now c.loop-values.values-index c.values-item.result in
    puts_next held c.args.sink.now c.loop-values.sink c.put_never.new.sink (λ v. values_text v.items ++ 10 ∷ []) c.args.list.now c.loop-values.values-index c.values-item.result c.loop-values-test.true c.loop-values.invariant
    (puts_as held c.loop-values.sink c.put_never.new.sink (values_text c.as_slice.result.now ++ 10 ∷ []) (values_text here.items ++ 10 ∷ [])
    (ap (λ (l : List ToldAnswer). values_text l ++ 10 ∷ []) (c.as_slice.ensures.value ∙ ap (λ (v : Vec ToldAnswer g.row.A.Denot). v.items) c.values-item.is)) c.put_never.ensures)

pub returns : goal.returns
returns g c =
    puts_as g.W.Write.contents c.args.sink.now c.loop-values.sink _ _ (all_lists (λ v. v.items) c.args.list.now c.loop-values.values-index c.loop-values-test.false) c.loop-values.invariant
