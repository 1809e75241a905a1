use Rattle.std.proofs.Common.{◌+◌, List, drop, ap, sym, ◌∙◌}
use Rattle.reg_outcomes.specs.declared.told.ToldAnswer.{ToldAnswer}
use Rattle.reg_outcomes.specs.Interleavings.{Interleaving}
use Rattle.reg_outcomes.specs.Nevers.{tells}
use Rattle.reg_outcomes.specs.Combining.{cut_all}
use Rattle.reg_outcomes.proofs.Combining.{at_told}
use Rattle.reg_outcomes.proofs.Listing.{next_left}
use Rattle.reg_outcomes.proofs.interleavings.nevers.remove_told.Goals as goal

pub loop-outcome-preserved : goal.loop-outcome-preserved
loop-outcome-preserved g c =
    let outcomes = tells c.args.outcomes.now in
    let told : List ToldAnswer = c.outcome.inside.told.items in
    let n = c.loop-outcome.outcome-index in
    let at = at_told c.args.outcomes.now n c.outcome-item.result told c.loop-outcome-test.true c.outcome-item.is (sym (ap (λ (i : Interleaving). i.told) c.outcome.view_is)) in
    ap (λ ks. cut_all (λ v. v.items) (drop (n + 1) outcomes) ks) c.remove.ensures.keys ∙ sym (ap (λ l. cut_all (λ v. v.items) l c.loop-outcome.combinations.keys) (next_left outcomes n told at)) ∙ c.loop-outcome.invariant
