use Rattle.std.proofs.Common.{length, ap, arith}
use Rattle.std.proofs.lemmas.Option.{slice_get-get_or}
use Rattle.reg_outcomes.proofs.Known.{all_called, called_more}
use Rattle.reg_outcomes.proofs.orders.sources.makers_of.Goals as goal

pub loop-place-preserved : goal.loop-place-preserved
loop-place-preserved g c =
    let place = c.loop-place.place in
    let lt = c.loop-place-test.true in
    called_more c.args.finder.now.entries c.entries-entries.result.now c.entries-entries.ensures.value place _ c.loop-place.makers c.note_entry.new.makers (slice_get-get_or c.entries-entries.result.now place _ (omega (arith, lt))) c.in_ok-note_entry.ensures.noted c.in_ok-note_entry.ensures.kept c.loop-place.invariant

pub returns : goal.returns
returns g c =
    let end = c.loop-place-test.false in
    let same = ap length c.entries-entries.ensures.value in
    all_called c.args.finder.now.entries c.loop-place.place c.loop-place.makers (omega (arith, end, same)) c.loop-place.invariant
