use Rattle.std.proofs.Common.{inl, inr, length, ap, arith}
use Rattle.std.proofs.lemmas.Option.{slice_get-get_or}
use Rattle.reg_checkers.proofs.Places.{within}
use Rattle.reg_outcomes.proofs.Losing.{makers_more}
use Rattle.reg_outcomes.proofs.orders.uses.Uses.new.Goals as goal

pub loop-place-preserved : goal.loop-place-preserved
loop-place-preserved g c =
    let h = c.args.finder.now.entries in
    let place = c.loop-place.place in
    let lt = c.loop-place-test.true in
    record {
      makers = makers_more h c.entries-entries.result.now c.entries-entries.ensures.value place _ c.loop-place.uses.makers c.note_maker.new.makers (slice_get-get_or c.entries-entries.result.now place _ (omega (arith, lt))) c.in_ok-note_maker.ensures.noted c.in_ok-note_maker.ensures.kept c.loop-place.invariant.makers;
      askers = λ q v is. elim (c.in_ok-note_asker.ensures q v is) [ inl old ↦ c.loop-place.invariant.askers q v old | inr new ↦ new ];
    }

pub returns : goal.returns
returns g c =
    let h = c.args.finder.now.entries in
    let end = c.loop-place-test.false in
    record {
      makers = λ j e at. c.loop-place.invariant.makers j e (let lt = within h j e at in let same = ap length c.entries-entries.ensures.value in omega (arith, lt, end, same)) at;
      askers = c.loop-place.invariant.askers;
    }
