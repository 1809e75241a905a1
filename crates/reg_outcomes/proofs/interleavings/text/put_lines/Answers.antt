use Rattle.std.proofs.Common.{◌++◌, ◌∷◌, [], get_or, ap}
use Rattle.reg_text.proofs.Sent.{puts_as}
use Rattle.reg_outcomes.proofs.Writing.{all_lines, puts_next}
use Rattle.reg_outcomes.specs.Interleavings.{Interleaving}
use Rattle.reg_outcomes.specs.AllText.{outcome_text}
use Rattle.reg_outcomes.proofs.interleavings.text.put_lines.Goals as goal

pub loop-outcome-preserved : goal.loop-outcome-preserved
loop-outcome-preserved g c =
    let held = g.W.Write.contents in
    let here = get_or c.args.outcomes.now c.loop-outcome.outcome-index c.outcome-item.result in
    puts_next held c.args.sink.now c.loop-outcome.sink c.put_line.new.sink (λ i. outcome_text i ++ 10 ∷ []) c.args.outcomes.now c.loop-outcome.outcome-index c.outcome-item.result c.loop-outcome-test.true c.loop-outcome.invariant
    (puts_as held c.loop-outcome.sink c.put_line.new.sink (outcome_text c.outcome-item.result ++ 10 ∷ []) (outcome_text here ++ 10 ∷ []) (ap (λ (i : Interleaving). outcome_text i ++ 10 ∷ []) c.outcome-item.is) c.put_line.ensures)

pub returns : goal.returns
returns g c =
    puts_as g.W.Write.contents c.args.sink.now c.loop-outcome.sink _ _ (all_lines outcome_text c.args.outcomes.now c.loop-outcome.outcome-index c.loop-outcome-test.false) c.loop-outcome.invariant
