use Rattle.std.proofs.Common.{List, length, take, refl, sym, subst, arith, take_all}
use Rattle.std.proofs.lemmas.Option.{slice_get_read}
use Rattle.reg_checkers.specs.History.{IsAt}
use Rattle.reg_outcomes.specs.Interleavings.{Interleaving}
use Rattle.reg_outcomes.proofs.Elements.{take_at}
use Rattle.reg_outcomes.specs.Outcomes.{CountsUndrawn}
use Rattle.reg_outcomes.proofs.Absent.{absent_none}
use Rattle.reg_outcomes.proofs.tables.undrawn.undrawn_of.Goals as goal

pub loop-outcome-init : goal.loop-outcome-init
loop-outcome-init g c = (λ plays unfinished counted. absent_none plays, omega arith)

pub loop-outcome-preserved : goal.loop-outcome-preserved
loop-outcome-preserved g c =
    let outcomes : List Interleaving = c.args.outcomes.now in
    let item : Interleaving = c.outcome-item.result in
    let n = c.loop-outcome.outcome-index in
    let here : IsAt outcomes n item = slice_get_read outcomes (length outcomes) n item refl c.loop-outcome-test.true c.outcome-item.is in
    let old = c.loop-outcome.invariant.1 in
    let one = c.undrawn_with-undrawn.ensures.one in (
      λ plays unfinished counted. subst (λ (l : List Interleaving). CountsUndrawn plays l c.undrawn_with-undrawn.result) (sym (take_at outcomes n item here))
          (c.undrawn_with-undrawn.ensures.counted plays unfinished (take n outcomes) counted (c.loop-outcome.invariant.0 plays unfinished counted)),
      omega (arith, old, one),
    )

pub returns : goal.returns
returns g c plays unfinished counted =
    subst (λ (l : List Interleaving). CountsUndrawn plays l c.loop-outcome.undrawn) (take_all c.loop-outcome.outcome-index c.args.outcomes.now c.loop-outcome-test.false) (c.loop-outcome.invariant.0 plays unfinished counted)
