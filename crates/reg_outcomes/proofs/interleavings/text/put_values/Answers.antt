use Rattle.std.proofs.Common.{ℕ, List, ◌++◌, codes, ap, sym, take_all}
use Rattle.std.specs.List.{flat_map}
use Rattle.reg_text.proofs.Sent.{puts_as, puts_two}
use Rattle.reg_outcomes.specs.declared.told.ToldAnswer.{ToldAnswer}
use Rattle.reg_outcomes.specs.AllText.{value_text, values_text}
use Rattle.reg_outcomes.proofs.Writing.{puts_next}
use Rattle.reg_outcomes.proofs.interleavings.text.put_values.Goals as goal

pub loop-value-preserved : goal.loop-value-preserved
loop-value-preserved g c =
    puts_next g.W.Write.contents c.put_value.new.sink c.loop-value.sink c.put_behind.new.sink (λ u. codes "  " ++ value_text u) c.in-Some.others.now c.loop-value.value-index _ c.loop-value-test.true c.loop-value.invariant c.put_behind.ensures

pub returns : goal.returns
returns g c =
    let held = g.W.Write.contents in
    let text : List ToldAnswer → List ℕ = flat_map (λ u. codes "  " ++ value_text u) in
    let first : ToldAnswer = c.in-Some.first.now in
    let others : List ToldAnswer = c.in-Some.others.now in
    let e = c.in-Some.ensures.cases in
    puts_as held c.args.sink.now c.loop-value.sink (value_text first ++ text others) (values_text c.args.values.now) (ap values_text (sym e.0))
    (puts_two held c.args.sink.now c.put_value.new.sink c.loop-value.sink (value_text first) (text others) c.put_value.ensures
    (puts_as held c.put_value.new.sink c.loop-value.sink _ (text others) (ap text (take_all c.loop-value.value-index others c.loop-value-test.false)) c.loop-value.invariant))
